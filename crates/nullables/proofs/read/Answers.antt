use Rattle.std.proofs.Common.{sym, ◌∙◌, arith}
use Rattle.reading.specs.Reads.{small_by_index}
use Rattle.nullables.specs.Walked.{list_walked}
use Rattle.nullables.proofs.read.Goals as goal

pub returns-in-Simple : goal.returns-in-Simple
returns-in-Simple c =
    let a = c.args in
    let small = small_by_index a.file.now (λ j h. omega (arith, c.type_inv.file j)) in
    list_walked a.grid a.file.now a.codes.now small a.a a.n a.at a.used a.depth _ a.words.now c.of_plain.new.words c.of_plain.result
    (sym c.kind_at.ensures ∙ c.if-kind_at-ne-NULLABLE_KIND.false) c.if-depth-lt2.false
    (sym c.raw_of.ensures ∙ c.in-Simple.is) c.of_plain.ensures

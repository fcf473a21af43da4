use Rattle.std.specs.Prelude.{◌≡◌, Result, Ok, Err, Some}
use Rattle.std.proofs.Common.{sym, ap, ◌∙◌, arith}
use Rattle.std.specs.Result.{result_ok}
use Rattle.laws.specs.Small.{differ}
use Rattle.answers.specs.Told.{told}
use Rattle.reading.specs.Reads.{small_by_index}
use Rattle.packs.specs.Short.{short_there}
use Rattle.packs.proofs.short_record.Goals as goal

there : {T E : Type 0} {x : T} (r : Result T E) → Some x ≡ result_ok r → r ≡ Ok x
there (Ok y) e = cc
there (Err y) e = differ cc

-- the tests of the record say that it stands there
pub returns : goal.returns
returns c =
    let a = c.args in
    let small = small_by_index a.pack.now (λ i h. omega (arith, c.type_inv.pack i)) in
    let q = sym c.little.ensures ∙ ap told (there c.little.result c.in_ok-length.ensures.value) in
    short_there _ _ small c.if-marked.false c.if-pack-at.false c.if-pack-at-2.false (c.is_path.ensures c.if-not-is_path.false) q (sym c.has_bytes.ensures ∙ c.if-not-has_bytes.false)

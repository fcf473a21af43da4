use mathlib.Core.Path.{sym, ◌∙◌}
use native.Mathlib.Omega.{arith}
use Rattle.reading.specs.Reads.{small_by_index}
use Rattle.rewrite.specs.Measured.{found}
use Rattle.rewrite.specs.Pending.{passed_over}
use Rattle.rewrite.proofs.pass.Goals as goal

pub returns-then-number-eq0 : goal.returns-then-number-eq0
returns-then-number-eq0 c =
    λ base places whole m p.
    let a = c.args in
    let s = a.file.now in
    let small = small_by_index s (λ i h. omega (arith, c.type_inv.file i)) in
    let f = found s small a.at a.number m in
    passed_over s base a.out.now a.c.from a.c.to places whole small (sym f.padding_is ∙ c.if-number-eq0.true) p

pub returns : goal.returns
returns c =
    λ base places whole m p.
    let a = c.args in
    let s = a.file.now in
    let small = small_by_index s (λ i h. omega (arith, c.type_inv.file i)) in
    let f = found s small a.at a.number m in
    c.write_number.ensures base places whole f.value_is f.next_is p

-- `clear_columns` meets its contract: before each turn the first `j` columns are cleared. Assumes nothing.
use Rattle.std.proofs.Common.{◌≡◌, refl, ◌∙◌, add-one, arith, rules}
use Rattle.table.specs.Cleared.{columns_wiped, columns_cleared}
use Rattle.table.proofs.clear_columns.Goals as goal

pub loop-j-init : goal.loop-j-init
unfolding columns_wiped
loop-j-init c = (omega arith, refl, refl)

pub loop-j-preserved : goal.loop-j-preserved
unfolding columns_wiped
loop-j-preserved c =
    let inv = c.loop-j.invariant in
    (omega (arith, c.loop-j-test.true), search rules, c.clear_range.ensures ∙ rw (add-one c.loop-j.j, c.cell-from.ensures, c.cell-to.ensures, inv.2))

pub returns : goal.returns
unfolding columns_cleared
returns c =
    let e : c.loop-j.j ≡ 7 = omega (arith, c.loop-j-test.false, c.loop-j.invariant.0) in
    c.clear.ensures ∙ rw (c.cell.ensures, c.loop-j.invariant.2, e)

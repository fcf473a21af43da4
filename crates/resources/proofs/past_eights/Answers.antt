-- `resources::past_eights` meets its contract: before each turn the rows from eight times `k` on say whether there is a reference. Assumes nothing.
use mathlib.Core.Path.{◌≡◌, sym, ◌∙◌}
use Prim.Native.Nat.{◌+◌, ◌*◌}
use native.Mathlib.Omega.{arith}
use Rattle.resources.proofs.Unmarked.{any_past}
use Rattle.resources.proofs.past_eights.Goals as goal

pub loop-k-preserved : goal.loop-k-preserved
loop-k-preserved c =
    let a = c.args in
    let z : 8 * (c.loop-k.k + 1) ≡ 8 * c.loop-k.k + 8 = omega arith in
    rw z (sym (any_past a.table.grid a.table.words.now a.used (8 * c.loop-k.k) 8 (omega (arith, c.loop-k-test.true)) (c.any_of_eight.ensures c.if-any_of_eight.false)) ∙ c.loop-k.invariant)

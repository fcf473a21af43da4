use mathlib.Core.Path.{refl, sym, ◌∙◌}
use Prim.Native.Nat.{◌+◌, ◌-◌}
use native.Mathlib.Omega.{arith}
use borrow.Author.Tests.{leb-true}
use Rattle.reading.specs.Reads.{small_by_index}
use Rattle.rewrite.specs.Table.{table_places}
use Rattle.rewrite.specs.Steps.{next_row, no_row, all_rows}
use Rattle.rewrite.specs.Pending.{all_saved}
use borrow.Author.Rules.{rules}
use Rattle.rewrite.proofs.pass_rows.Goals as goal

pub loop-row-init : goal.loop-row-init
loop-row-init c = (refl, λ base whole p. rw (all_rows c.args.file.now c.args.words.now c.args.rows) p)

-- enough is saved: what is left has no padding
pub returns-then-has_saved : goal.returns-then-has_saved
returns-then-has_saved c =
    let args = c.args in
    λ base whole n p.
    let s = args.file.now in
    let small = small_by_index s (λ i h. omega (arith, c.type_inv.file i)) in
    all_saved s base c.loop-row.out c.loop-row.done.from c.loop-row.done.to args.padding _ whole small n (leb-true _ _ (sym c.has_saved.ensures ∙ c.if-has_saved.true)) (c.loop-row.invariant.1 base whole p)

pub loop-row-preserved : goal.loop-row-preserved
loop-row-preserved c =
    let args = c.args in
    let next = next_row args.file.now args.words.now args.rows c.loop-row.row c.loop-row-test.true in
    let behind = table_places args.file.now args.words.now (args.rows - (c.loop-row.row + 1)) (c.loop-row.row + 1) in
    (search rules, λ base whole p. c.pass_row-done.ensures base behind whole (rw next at (c.loop-row.invariant.1 base whole p)))

pub returns : goal.returns
returns c =
    let args = c.args in
    λ base whole n p. rw (no_row args.file.now args.words.now args.rows c.loop-row.row c.loop-row-test.false) at (c.loop-row.invariant.1 base whole p)

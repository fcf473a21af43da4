use borrow.Author.Rules.{rules}
use mathlib.Core.Path.{◌≡◌}
use Prim.Native.Nat.{◌+◌, ◌≤◌}
use native.Mathlib.Omega.{arith}
use lib.ListN.{length, drop}
use Rattle.reader_names.specs.Lines.{line_size}
use Rattle.reader_names.proofs.Laws.{start_is, end_is, step_is, line_is, counts_is}
use Rattle.reader_names.proofs.judge_lines.Goals.{After-line_size-size}
use Rattle.reader_names.proofs.judge_lines.Goals as goal

-- the size of the line at hand
line : (c : After-line_size-size)
    → (c.line_size-size.result ≡ line_size (drop c.loop-at.at c.args.s.now))
    × (c.loop-at.at + c.line_size-size.result ≤ length c.args.s.now)
line c = line_is _ _ _ c.loop-at-test.true c.line_size-size.ensures

pub loop-at-init : goal.loop-at-init
loop-at-init c = (search rules, start_is _ _)

pub overflow_add-end : goal.overflow_add-end
overflow_add-end c = omega (arith, line c)

pub slice_bounds-judge-end : goal.slice_bounds-judge-end
slice_bounds-judge-end c = omega (arith, line c)

pub overflow_add-at : goal.overflow_add-at
overflow_add-at c = omega (arith, line (goal.at.overflow_add-at c).After-line_size-size)

pub loop-at-smaller : goal.loop-at-smaller
loop-at-smaller c = omega (arith, line (goal.at.loop-at-smaller c).After-line_size-size)

pub loop-at-preserved : goal.loop-at-preserved
loop-at-preserved c =
    let l = line (goal.at.loop-at-preserved c).After-line_size-size in
    ((omega (arith, l), omega arith, search rules), step_is _ _ _ _ _ c.loop-at-test.true c.loop-at.invariant.1 _ _ l.0 c.judge.ensures)

pub returns : goal.returns
returns c =
    let j = end_is _ _ _ _ _ c.loop-at-test.false c.loop-at.invariant.1 in
    record { judges = j; prefix_len = counts_is _ _ _ _ (omega arith) j }

use native.Mathlib.Omega.{arith}
use borrow.Author.Tests.{eq-eqb, ne_eqb}
use Rattle.leaves.specs.Run.{turn_of, length-levels}
use Rattle.leaves.proofs.run.turn.Goals as goal

pub returns-then-i-eq0 : goal.returns-then-i-eq0
unfolding turn_of
returns-then-i-eq0 c = rw (c.in-Turns.is, eq-eqb _ 0 c.if-i-eq0.true)

pub overflow_cast-i : goal.overflow_cast-i
overflow_cast-i c =
    let pre = rw c.in-Levels.is at c.requires in
    omega (arith, pre, length-levels c.in-Levels.format c.in-Levels.width c.in-Levels.height c.in-Levels.field-3)

pub returns-in-Same : goal.returns-in-Same
unfolding turn_of
returns-in-Same c = rw c.in-Same.is

pub returns-else-i-eq0 : goal.returns-else-i-eq0
unfolding turn_of
returns-else-i-eq0 c = rw (c.in-Turns.is, ne_eqb _ 0 c.if-i-eq0.false)

pub returns-in-Levels : goal.returns-in-Levels
unfolding turn_of
returns-in-Levels c = rw (c.in-Levels.is, c.level_size.ensures)

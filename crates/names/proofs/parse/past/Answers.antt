use native.Mathlib.Omega.{arith}
use Rattle.names.proofs.Laws.{matched_fits}
use Rattle.names.proofs.Steps.{past-stands, past-lost}
use Rattle.names.proofs.parse.past.Goals as goal

pub overflow_add-next : goal.overflow_add-next
overflow_add-next c = omega (arith, matched_fits _ _ _ _ c.requires c.matched-m.ensures, c.args.part.placed)

pub returns-then-m-text : goal.returns-then-m-text
returns-then-m-text c = past-stands _ _ _ _ c.args.argument _ c.matched-m.ensures c.if-m-text.true

pub overflow_add-place : goal.overflow_add-place
overflow_add-place c = omega (arith, matched_fits _ _ _ _ c.requires c.matched-m.ensures, c.args.part.placed)

pub returns : goal.returns
returns c = rw c.at.ensures (past-lost _ _ _ _ c.args.argument _ c.matched-m.ensures c.if-m-text.false _ c.behind_at.ensures)

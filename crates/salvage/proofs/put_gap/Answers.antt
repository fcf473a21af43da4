use Rattle.salvage.proofs.Gaps.{gap-none, gap_one}
use Rattle.salvage.proofs.put_gap.Goals as goal

pub returns-then-to-from : goal.returns-then-to-from
returns-then-to-from c = gap-none _ _ _ _ c.if-to-from.true

pub returns : goal.returns
returns c = gap_one _ _ _ _ c.if-to-from.false c.requires

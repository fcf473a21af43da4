use Prim.Native.Nat.{◌+◌, ◌*◌, ◌-◌}
use mathlib.Core.List.{List}
use Rattle.layout.specs.Target.{Target}
use Rattle.layout.specs.Slot as L
use Rattle.readers.specs.Listed.{Listed}
use Rattle.heads.specs.Plans.{NestIs}
use Rattle.steps.specs.Turns.{Standing}
use Rattle.load.proofs.walk.+values.Given as goal

abbrev pub decreases-below : goal.decreases-below
decreases-below l = 6 * l.depth + 3

abbrev pub decreases-list_from : goal.decreases-list_from
decreases-list_from l = 6 * l.depth + 2

abbrev pub decreases-nested : goal.decreases-nested
decreases-nested l = 6 * l.spot.depth

abbrev pub decreases-objects_from : goal.decreases-objects_from
decreases-objects_from l = 6 * l.depth + 1

abbrev pub decreases-raw : goal.decreases-raw
decreases-raw l = 6 * l.depth + 4

abbrev pub decreases-raws_from : goal.decreases-raws_from
decreases-raws_from l = 6 * l.depth + 1

abbrev pub invariant-nested-loop-stage : goal.invariant-nested-loop-stage
invariant-nested-loop-stage l =
    (readers : List Target) (plan : L.Plan) → Listed l.file l.codes l.rd readers → NestIs l.file l.codes l.nest plan
    → Standing l.grid l.file l.codes readers l.shared l.spot.depth plan l.initial.words l.spot.at l.spot.used l.spot.parent l.nest l.words l.stage l.next l.row l.sum

abbrev pub decreases-nested-loop-stage : goal.decreases-nested-loop-stage
decreases-nested-loop-stage l = l.grid.room - l.row

use Prim.Native.Nat.{◌/◌, ◌%◌, ◌<◌}
use native.Mathlib.Omega.{arith}
use native.Mathlib.Nat.{mod-lt}
use lib.ListN.{length}
use Rattle.seen_names.specs.Laws.{note_none, note_some}
use Rattle.seen_names.proofs.note.Goals as goal

named : {A B : Type 0} → A × B → record { value : A; seen_after : B }
named p = record { value = p.0; seen_after = p.1 }

pub returns-then-cells-eq0 : goal.returns-then-cells-eq0
returns-then-cells-eq0 c = let a = c.args in named (note_none a.seen.now a.name.now c.if-cells-eq0.true)

pub offset_bounds-seen-cell : goal.offset_bounds-seen-cell
offset_bounds-seen-cell c =
    let n = length c.args.seen.now in
    let h : c.spread-first.result / 65536 % n < n = mod-lt (c.spread-first.result / 65536) (omega (arith, c.if-cells-eq0.false)) in
    omega (arith, h)

pub bounds-seen-cell : goal.bounds-seen-cell
bounds-seen-cell c = mod-lt _ (omega (arith, c.if-cells-eq0.false))

pub offset_bounds-seen-cell-2 : goal.offset_bounds-seen-cell-2
offset_bounds-seen-cell-2 c =
    let n = length c.args.seen.now in
    let h : c.spread-first.result / 65536 % n < n = mod-lt (c.spread-first.result / 65536) (omega (arith, c.if-cells-eq0.false)) in
    omega (arith, h)

pub bounds-seen-cell-2 : goal.bounds-seen-cell-2
bounds-seen-cell-2 c = mod-lt _ (omega (arith, c.if-cells-eq0.false))

pub returns : goal.returns
returns c =
    let a = c.args in
    named (note_some a.seen.now a.name.now c.if-cells-eq0.false c.sum_of.ensures.0 c.spread-first.ensures.0 c.spread-second.ensures.0 c.bits_of.ensures)

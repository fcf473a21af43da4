use mathlib.Core.Path.{◌≡◌, refl, sym, ap, subst, ◌∙◌}
use mathlib.Core.List.{List}
use native.Mathlib.Omega.{arith}
use Prim.Native.Nat.{◌-◌, ◌≤◌}
use lib.ListN.{length, get_or}
use borrow.Author.Rules.{rules}
use Rattle.layout.specs.Target.{Target}
use Rattle.layout.specs.Slot as L
use Rattle.std.proofs.lemmas.Result.{err_from_is_err_and}
use Rattle.reading.specs.Reads.{small_by_index}
use Rattle.reading.specs.Walk.{walk}
use Rattle.heads.specs.Slots.{row_kind_lem}
use Rattle.walked.specs.Loop.{same, Got, got, lost}
use Rattle.readers.specs.Listed.{Listed}
use Rattle.heads.specs.Plans.{NestIs, after_of}
use Rattle.heads.specs.declared.nest.Nest.TheVariants.{Each}
use Rattle.objects.specs.Start.{position_in-list}
use Rattle.steps.specs.Known.{KnownNest}
use Rattle.steps.specs.Walks.{begin_below}
use Rattle.steps.specs.Turns.{Standing, standing, standing_begin, value_next, nothing_next, next_lost, next_walked, counts_walked, counts_refused}
use Rattle.steps.specs.Steps.{left_walked, raw-ends, raw-lost}
use Rattle.leaves.specs.Plain.{Begin}
use Rattle.steps.specs.Front.{list_nullables, took_fits, list_left, list_begin, list_all, list-refused, list_done}
use Prim.Native.Nat.{ℕ, ◌<◌}
use Rattle.load.proofs.walk.+values.Goals.{nested-in-Done, nested-in-Nested+in_ok-reached-in-Nested, below-in_default-via-in-Each+else-n-ge-LONG, below-in_default-via-in_default}
use Rattle.load.proofs.walk.+values.Goals as goal

-- a value is walked, and its padding added
nested-walked : (t : ℕ) (c : goal.nested-After-after-stage t) (readers : List Target) (plan : L.Plan) →
    let a = c.args in
    Listed a.file.now a.codes.now a.rd readers → NestIs a.file.now a.codes.now a.nest plan
    → Standing a.grid a.file.now a.codes.now readers a.shared a.spot.depth plan
    a.words.now a.spot.at a.spot.used a.spot.parent a.nest c.match-step.words
    (after_of a.file.now c.loop-stage.next a.nest c.loop-stage.stage) c.match-step.reached.next c.match-step.reached.used c.sum-sum.result
    × (c.loop-stage.row < c.match-step.reached.used) × (c.match-step.reached.used ≤ a.grid.room)
nested-walked t c readers plan l n =
    let a = c.args in
    let file = a.file.now in
    let small = small_by_index file (λ i h. omega (arith, c.type_inv.file i)) in
    let inv = c.loop-stage.invariant readers plan l n in
    let v = value_next _ _ _ _ _ _ _ _ _ _ _ _ c.requires.1.prelude inv c.loop-stage-test.true in
    let s = rw c.in_ok-step.was at (c.value.ensures a.rd readers v.x
    (record { counts = refl; at = ap (λ p. get_or a.rd.targets p 0) (sym c.reader_position-position.ensures) })
    l (rw c.slot_at-slot.ensures v.is)) in
    let y : Got a.grid file c.loop-stage.words c.match-step.words c.loop-stage.row
    (walk file readers a.shared a.grid.room a.spot.depth v.x c.loop-stage.next c.loop-stage.row a.spot.parent) c.match-step.reached.next c.match-step.reached.used c.match-step.reached.padding =
    elim c.match-step.branch [
      | nested-in-Done w ↦ rw (w.words-is, w.reached-is) (got (rw w.in-Done.is at s) refl)
      | nested-in-Nested+in_ok-reached-in-Nested w ↦ let q = rw w.in-Nested.is at s in
          rw (w.words-is, w.reached-is) (got (left_walked a.grid a.shared (a.spot.depth - 1) a.spot.parent (omega (arith, q.begins.deep)) q
          (w.raw.ensures readers q.begins.type l q.begins.stands q.opened)) w.in_ok-reached-in-Nested.was)
    ] in
    rw c.sum-sum.ensures (next_walked _ _ _ _ _ _ _ _ _ _ _ _ small c.requires.0 v y)

pub below-list_from-requires : goal.below-list_from-requires
below-list_from-requires t c =
    let a = c.args in
    (omega arith, (c.requires.0, c.requires.1, subst (λ y. KnownNest a.file.now a.codes.now y) c.in-Each.is c.requires.2))

pub below-returns-in-Each : goal.below-returns-in-Each
below-returns-in-Each t c =
    λ readers plan l i.
    let a = c.args in
    c.list_from.ensures readers plan l (subst (λ y. NestIs a.file.now a.codes.now y plan) c.in-Each.is i)

pub below-nested-requires : goal.below-nested-requires
below-nested-requires t c =
    let a = c.args in
    let e : c.in_default.nest ≡ a.nest = elim c.in_default.branch [ below-in_default-via-in-Each+else-n-ge-LONG w ↦ w.nest-is ∙ sym w.in-Each.is | below-in_default-via-in_default w ↦ w.nest-is ] in
    (omega arith, (c.requires.0, c.requires.1, subst (λ y. KnownNest a.file.now a.codes.now y) (sym e) c.requires.2))

pub below-returns-in_default : goal.below-returns-in_default
below-returns-in_default t c =
    λ readers plan l i.
    let a = c.args in
    let e : c.in_default.nest ≡ a.nest = elim c.in_default.branch [ below-in_default-via-in-Each+else-n-ge-LONG w ↦ w.nest-is ∙ sym w.in-Each.is | below-in_default-via-in_default w ↦ w.nest-is ] in
    c.nested.ensures readers plan l (subst (λ y. NestIs a.file.now a.codes.now y plan) (sym e) i)

pub list_from-objects_from-requires : goal.list_from-objects_from-requires
list_from-objects_from-requires t c =
    let a = c.args in
    (omega arith, (c.requires.0, c.requires.1, subst (λ y. KnownNest a.file.now a.codes.now (Each y a.n)) c.in-Object.is c.requires.2))

pub list_from-raws_from-requires : goal.list_from-raws_from-requires
list_from-raws_from-requires t c =
    let a = c.args in
    (omega arith, (c.requires.0, c.requires.1, subst (λ y. KnownNest a.file.now a.codes.now (Each y a.n)) c.in-Raw.is c.requires.2))

pub list_from-nested-requires : goal.list_from-nested-requires
list_from-nested-requires t c = (omega arith, c.requires)

pub list_from-returns-in-Object : goal.list_from-returns-in-Object
list_from-returns-in-Object t c =
    λ readers plan l i.
    let a = c.args in
    c.objects_from.ensures readers plan l (subst (λ y. NestIs a.file.now a.codes.now (Each y a.n) plan) c.in-Object.is i)

pub list_from-returns-in-Raw : goal.list_from-returns-in-Raw
list_from-returns-in-Raw t c =
    λ readers plan l i.
    let a = c.args in
    c.raws_from.ensures readers plan l (subst (λ y. NestIs a.file.now a.codes.now (Each y a.n) plan) c.in-Raw.is i)

pub list_from-returns-in-Simple : goal.list_from-returns-in-Simple
list_from-returns-in-Simple t c = c.nested.ensures

pub nested-loop-stage-init : goal.nested-loop-stage-init
nested-loop-stage-init t c =
    λ readers plan l w. rw c.begin-stage.ensures (standing _ _ _ _ _ _ _ _ _ _ _ _ w)

pub nested-offset_bounds-rd-position : goal.nested-offset_bounds-rd-position
nested-offset_bounds-rd-position t c =
    let h = subst (λ p. p < 64) (sym c.reader_position-position.ensures) (position_in-list c.args.file.now c.loop-stage.next) in
    search rules

pub nested-bounds-rd-position : goal.nested-bounds-rd-position
nested-bounds-rd-position t c =
    let h = subst (λ p. p < 64) (sym c.reader_position-position.ensures) (position_in-list c.args.file.now c.loop-stage.next) in
    search rules

pub nested-value-requires : goal.nested-value-requires
nested-value-requires t c =
    let a = c.args in
    let k = c.requires.1 in
    let inv = c.loop-stage.invariant k.readers c.requires.2.plan k.listed c.requires.2.is in
    let v = value_next _ _ _ _ _ _ _ _ _ _ _ _ k.prelude inv c.loop-stage-test.true in (
      standing_begin _ _ _ _ _ _ _ _ _ _ _ _ c.requires.0 inv,
      record { rd = a.rd; readers = k.readers; has = record { counts = refl; at = ap (λ p. get_or a.rd.targets p 0) (sym c.reader_position-position.ensures) }; listed = k.listed },
      record { x = v.x; is = rw c.slot_at-slot.ensures v.is },
    )

pub nested-returns-in_err-step : goal.nested-returns-in_err-step
nested-returns-in_err-step t c =
    λ readers plan l w.
    let a = c.args in
    let inv = c.loop-stage.invariant readers plan l w in
    let v = value_next _ _ _ _ _ _ _ _ _ _ _ _ c.requires.1.prelude inv c.loop-stage-test.true in
    let s = rw c.in_err-step.was at (c.value.ensures a.rd readers v.x
    (record { counts = refl; at = ap (λ p. get_or a.rd.targets p 0) (sym c.reader_position-position.ensures) }) l (rw c.slot_at-slot.ensures v.is)) in
    let p = err_from_is_err_and c.from_residual.result c.from_residual.ensures.1 in
    rw (p.1, p.2) (next_lost _ _ _ _ _ _ _ _ _ _ _ _ v (lost s refl))

pub nested-overflow_sub-spot : goal.nested-overflow_sub-spot
nested-overflow_sub-spot t c =
    let a = c.args in
    let k = c.requires.1 in
    let inv = c.loop-stage.invariant k.readers c.requires.2.plan k.listed c.requires.2.is in
    let v = value_next _ _ _ _ _ _ _ _ _ _ _ _ k.prelude inv c.loop-stage-test.true in
    let s = rw (c.in_ok-step.was, c.in-Nested.is) at (c.value.ensures a.rd k.readers v.x
    (record { counts = refl; at = ap (λ p. get_or a.rd.targets p 0) (sym c.reader_position-position.ensures) }) k.listed (rw c.slot_at-slot.ensures v.is)) in
    omega (arith, s.begins.deep)

pub nested-raw-requires : goal.nested-raw-requires
nested-raw-requires t c =
    let a = c.args in
    let k = c.requires.1 in
    let inv = c.loop-stage.invariant k.readers c.requires.2.plan k.listed c.requires.2.is in
    let v = value_next _ _ _ _ _ _ _ _ _ _ _ _ k.prelude inv c.loop-stage-test.true in
    let s = rw (c.in_ok-step.was, c.in-Nested.is) at (c.value.ensures a.rd k.readers v.x
    (record { counts = refl; at = ap (λ p. get_or a.rd.targets p 0) (sym c.reader_position-position.ensures) }) k.listed (rw c.slot_at-slot.ensures v.is)) in
    let b = standing_begin _ _ _ _ _ _ _ _ _ _ _ _ c.requires.0 inv in (
      omega (arith, s.begins.deep),
      (
        record {
          long = omega (
            arith,
            b.long,
            ap length s.same,
          );
          few = b.few;
          free = s.begins.free;
          begun = s.begins.ahead;
          place = s.begins.inside;
          short = b.short;
          ided = s.begins.ided;
        },
        k,
        record { type = s.begins.type; is = s.begins.stands; opened = s.opened },
      ),
    )

pub nested-returns-in_err-reached-in-Nested : goal.nested-returns-in_err-reached-in-Nested
nested-returns-in_err-reached-in-Nested t c =
    λ readers plan l w.
    let a' = c.args in
    let a = a' in
    let inv = c.loop-stage.invariant readers plan l w in
    let v = value_next _ _ _ _ _ _ _ _ _ _ _ _ c.requires.1.prelude inv c.loop-stage-test.true in
    let s = rw (c.in_ok-step.was, c.in-Nested.is) at (c.value.ensures a.rd readers v.x (record { counts = refl; at = ap (λ p. get_or a.rd.targets p 0) (sym c.reader_position-position.ensures) }) l
    (rw c.slot_at-slot.ensures v.is)) in
    let p = err_from_is_err_and c.from_residual-in_err-reached-in-Nested.result c.from_residual-in_err-reached-in-Nested.ensures.1 in
    rw (p.1, p.2) (next_lost _ _ _ _ _ _ _ _ _ _ _ _ v (lost (left_walked a.grid a.shared (a.spot.depth - 1) a.spot.parent (omega (
      arith,
      s.begins.deep,
    )) s (c.raw.ensures readers s.begins.type l s.begins.stands s.opened)) c.in_err-reached-in-Nested.was))

pub nested-loop-stage-smaller : goal.nested-loop-stage-smaller
nested-loop-stage-smaller t c =
    let k = c.requires.1 in
    let z = nested-walked t c k.readers c.requires.2.plan k.listed c.requires.2.is in
    omega (arith, z.1, z.2)

pub nested-loop-stage-preserved : goal.nested-loop-stage-preserved
nested-loop-stage-preserved t c =
    λ readers plan l n. rw c.after-stage.ensures (nested-walked t c readers plan l n).0

pub nested-shape_of-words : goal.nested-shape_of-words
nested-shape_of-words t c =
    let inv = c.loop-stage.invariant c.requires.1.readers c.requires.2.plan c.requires.1.listed c.requires.2.is in
    let l = same _ _ _ _ _ _ _ inv.read_so in
    search rules

pub nested-returns : goal.nested-returns
nested-returns t c =
    λ readers plan l w. nothing_next _ _ _ _ _ _ _ _ _ _ _ _ (c.loop-stage.invariant readers plan l w) c.loop-stage-test.false

pub objects_from-overflow_add-row : goal.objects_from-overflow_add-row
objects_from-overflow_add-row t c =
    let a = c.args in
    let b = c.requires.0 in
    omega (arith, b.few, took_fits a.grid a.file.now a.codes.now _ _ _ a.used a.words.now a.at _ _ _ _ b.rows c.take-front.ensures.1)

pub objects_from-returns-then-n-front : goal.objects_from-returns-then-n-front
objects_from-returns-then-n-front t c =
    λ readers plan l i.
    let a' = c.args in
    let a = a' in
    let small = small_by_index a.file.now (λ j h. omega (arith, c.type_inv.file j)) in
    list_all a.grid a.file.now a.codes.now _ readers l small a.shared a.declared a.n plan i a.words.now a.at a.used c.requires.0 a.depth _ _ _ _ _
    c.takeable-most.ensures c.take-front.ensures.0 c.take-front.ensures.1 c.if-n-front.true

pub objects_from-nested-requires : goal.objects_from-nested-requires
objects_from-nested-requires t c =
    let a' = c.args in
    let a = a' in
    let k = c.requires.1 in
    let i = c.requires.2.is in
    let small = small_by_index a.file.now (λ j h. omega (arith, c.type_inv.file j)) in
    let b = list_begin a.grid a.file.now a.codes.now _ k.readers k.listed small a.shared a.declared a.n _ i a.words.now a.at a.used c.requires.0
    a.depth _ _ _ _ _ c.takeable-most.ensures c.take-front.ensures.0 c.take-front.ensures.1 in
    let n = list_left a.grid a.file.now a.codes.now _ k.readers k.listed small a.shared a.declared a.n _ i a.words.now a.at a.used c.requires.0
    a.depth _ _ _ _ _ c.takeable-most.ensures c.take-front.ensures.0 c.take-front.ensures.1 in
    (omega (arith), (b, k, record { plan = _; is = n }))

pub objects_from-returns-in_err-rest : goal.objects_from-returns-in_err-rest
objects_from-returns-in_err-rest t c =
    λ readers plan l i.
    let a' = c.args in
    let a = a' in
    let small = small_by_index a.file.now (λ j h. omega (arith, c.type_inv.file j)) in
    let n = list_left a.grid a.file.now a.codes.now _ readers l small a.shared a.declared a.n plan i a.words.now a.at a.used c.requires.0 a.depth _ _
    _ _ _ c.takeable-most.ensures c.take-front.ensures.0 c.take-front.ensures.1 in
    let p = err_from_is_err_and c.from_residual.result c.from_residual.ensures.1 in
    rw (p.1, p.2) (list-refused a.grid a.file.now a.codes.now _ readers l small a.shared a.declared a.n plan i a.words.now a.at a.used c.requires.0 a.depth _ _ _ _ _
    c.takeable-most.ensures c.take-front.ensures.0 c.take-front.ensures.1
    (rw c.in_err-rest.was at (c.nested.ensures readers _ l n)))

pub objects_from-returns : goal.objects_from-returns
objects_from-returns t c =
    λ readers plan l i.
    let a' = c.args in
    let a = a' in
    let small = small_by_index a.file.now (λ j h. omega (arith, c.type_inv.file j)) in
    let n = list_left a.grid a.file.now a.codes.now _ readers l small a.shared a.declared a.n plan i a.words.now a.at a.used c.requires.0 a.depth _ _
    _ _ _ c.takeable-most.ensures c.take-front.ensures.0 c.take-front.ensures.1 in
    rw c.sum.ensures
    (list_done a.grid a.file.now a.codes.now _ readers l small a.shared a.declared a.n plan i a.words.now a.at a.used c.requires.0 a.depth _ _ _ _ _
    c.takeable-most.ensures c.take-front.ensures.0 c.take-front.ensures.1
    (rw c.in_ok-rest.was at (c.nested.ensures readers _ l n)))

pub raw-overflow_add-first : goal.raw-overflow_add-first
raw-overflow_add-first t c =
    omega (arith, c.requires.0.free)

pub raw-below-requires : goal.raw-below-requires
raw-below-requires t c =
    let k = c.requires.2 in
    let small = small_by_index c.args.file.now (λ i h. omega (arith, c.type_inv.file i)) in
    (omega (arith), (begin_below k.type small c.requires.0 k.opened.is, c.requires.1, record { plan = _; is = k.opened.goes }))

pub raw-returns-in_err-children : goal.raw-returns-in_err-children
raw-returns-in_err-children t c =
    λ readers t l i o.
    let a = c.args in
    let p = err_from_is_err_and c.from_residual.result c.from_residual.ensures.1 in
    rw (p.1, p.2) (raw-lost a.grid a.file.now a.h a.at t readers a.shared a.depth o (counts_refused _ (rw c.in_err-children.was at (c.below.ensures readers _ l o.goes))))

pub raw-returns : goal.raw-returns
raw-returns t c =
    λ readers t l i o.
    let a' = c.args in
    let a = a' in
    let small = small_by_index a.file.now (λ j h. omega (arith, c.type_inv.file j)) in
    let x = counts_walked _ (rw c.in_ok-children.was at (c.below.ensures readers _ l o.goes)) in
    rw (
      c.close.ensures.value,
      c.close.ensures.words_after,
    ) (raw-ends a.grid a.file.now a.h a.at t readers a.shared a.depth _ _ _ small c.requires.0 i.lawful o refl x.1 (c.row_kind-kind.ensures ∙ row_kind_lem i)
    x.0)

pub raws_from-nested-requires : goal.raws_from-nested-requires
raws_from-nested-requires t c =
    let a' = c.args in
    let a = a' in
    let e = rw c.in-None.is at c.read.ensures in
    (omega (arith), (subst (λ w. Begin a.file.now w a.grid a.at a.used) (sym e) c.requires.0, c.requires.1, c.requires.2))

pub raws_from-returns-in-Some : goal.raws_from-returns-in-Some
raws_from-returns-in-Some t c =
    λ readers plan l i.
    let a = c.args in
    let small = small_by_index a.file.now (λ j h. omega (arith, c.type_inv.file j)) in
    let w = rw c.in-Some.is at c.read.ensures in
    list_nullables a.grid a.file.now a.codes.now readers small a.shared a.a a.n plan i a.at a.used a.depth a.words.now _ _ c.requires.0 w

pub raws_from-returns-in-None : goal.raws_from-returns-in-None
raws_from-returns-in-None t c =
    λ readers plan l i.
    let e = rw c.in-None.is at c.read.ensures in
    rw e at (c.nested.ensures readers plan l i)

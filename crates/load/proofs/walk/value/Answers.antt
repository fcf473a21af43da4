use mathlib.Core.Path.{sym}
use Prim.Native.Nat.{ℕ, ◌-◌, ◌≤◌}
use native.Mathlib.Omega.{arith}
use mathlib.Core.List.{List}
use lib.ListN.{length}
use Rattle.layout.specs.Target.{Target}
use Rattle.layout.specs.Slot.{Slot}
use Rattle.readers.specs.declared.Readers.{Readers}
use Rattle.readers.specs.Listed.{Listed}
use Rattle.heads.specs.Placed.{SlotIs}
use Rattle.objects.specs.Beginnings.{Has, position_at, Starts}
use Rattle.objects.specs.Meaning.{starts_as}
use Rattle.reading.specs.Drafts.{nothing}
use Rattle.reading.specs.Answer.{read}
use Rattle.reading.specs.Reads.{small_by_index}
use Rattle.walked.specs.Contract.{seen, Free}
use Rattle.walked.specs.Loop.{refusing}
use Rattle.walked.specs.Leaf.{leaf_walked}
use Rattle.leaves.specs.Plain.{head_of}
use Rattle.leaves.proofs.PlainLaws.{plain_walked, fixed_walked}
use Rattle.steps.specs.Steps.{null_pads, value-told, raw_steps}
use Rattle.leaves.specs.Like.{like_walk}
use Rattle.load.proofs.Mapped.{mapped}
use Rattle.load.proofs.walk.value.Goals.{After-start}
use Rattle.load.proofs.walk.value.Goals as goal

-- what the value begins with
starting : (c : After-start) (rd : Readers) (readers : List Target) (x : Slot)
    → Has rd c.args.count (position_at c.args.file.now c.args.spot.at) c.args.target
    → Listed c.args.file.now c.args.codes.now rd readers
    → SlotIs c.args.file.now c.args.codes.now c.args.slot x
    → c.args.spot.at ≤ length c.args.file.now
    → (let a = c.args in Starts a.file.now a.codes.now readers a.grid.room a.spot.depth x a.spot.at a.spot.used c.start.result)
starting c rd readers x h l s p =
    let a = c.args in
    let small = small_by_index a.file.now (λ i h. omega (arith, c.type_inv.file i)) in
    rw c.start.ensures (starts_as a.file.now a.codes.now a.count a.target rd readers l small a.grid.room a.slot a.spot.at a.spot.used a.spot.depth x h s p)

pub overflow_sub-spot : goal.overflow_sub-spot
overflow_sub-spot c =
    let s = rw (c.in-Ok-Raw.is, c.in-Ok-Raw.field-0-is) at (starting (goal.at.overflow_sub-spot c).After-start c.requires.1.rd c.requires.1.readers c.requires.2.x c.requires.1.has c.requires.1.listed c.requires.2.is c.requires.0.place) in
    omega (arith, s.deep)

pub raw_step-requires : goal.raw_step-requires
raw_step-requires c =
    let s = rw (c.in-Ok-Raw.is, c.in-Ok-Raw.field-0-is) at (starting (goal.at.raw_step-requires c).After-start c.requires.1.rd c.requires.1.readers c.requires.2.x c.requires.1.has c.requires.1.listed c.requires.2.is c.requires.0.place) in
    record { long = c.requires.0.long; few = c.requires.0.few; free = s.free; begun = s.ahead; place = s.inside; short = c.requires.0.short; ided = s.ided }

pub returns-in-Err : goal.returns-in-Err
returns-in-Err c =
    λ rd readers x h l s.
    let b = rw c.in-Err.is at (starting (goal.at.returns-in-Err c).After-start rd readers x h l s c.requires.0.place) in
    (refusing (b c.args.shared c.args.spot.parent))

pub returns-in-Fixed : goal.returns-in-Fixed
returns-in-Fixed c =
    λ rd readers x h l s.
    let a = c.args in
    let p = c.requires.0 in
    let small = small_by_index a.file.now (λ i h. omega (arith, c.type_inv.file i)) in
    let b = rw (c.in-Ok-Plain.is, c.in-Ok-Plain.field-0-is, c.in-Fixed.is) at (starting (goal.at.returns-in-Fixed c).After-start rd readers x h l s p.place) in
    let w = fixed_walked a.file.now a.grid a.shared _ _ a.spot.at a.spot.used a.words.now small p b.1 readers a.spot.depth a.spot.parent in
    let v = rw (sym (like_walk a.file.now readers a.shared a.grid.room a.spot.depth b.0 a.spot.at a.spot.used a.spot.parent)) at w in
    rw (mapped c.read_fixed.result c.map.result c.map.ensures.cases, c.read_fixed.ensures.value, c.read_fixed.ensures.words_after)
    (value-told a.grid a.file.now a.codes.now readers a.shared a.spot.depth x a.spot.at a.spot.used a.spot.parent _ v)

pub returns-in_default : goal.returns-in_default
returns-in_default c =
    λ rd readers x h l s.
    let a = c.args in
    let p = c.requires.0 in
    let small = small_by_index a.file.now (λ i h. omega (arith, c.type_inv.file i)) in
    let b = rw (c.in-Ok-Plain.is, c.in-Ok-Plain.field-0-is) at (starting (goal.at.returns-in_default c).After-start rd readers x h l s p.place) in
    let w = plain_walked a.file.now a.grid a.shared c.in-Ok-Plain.plain a.spot.at a.spot.used a.words.now small p b.1 readers a.spot.depth a.spot.parent in
    let v = rw (sym (like_walk a.file.now readers a.shared a.grid.room a.spot.depth b.0 a.spot.at a.spot.used a.spot.parent)) at w in
    rw (mapped c.read_plain.result c.map-in_default.result c.map-in_default.ensures.cases, c.read_plain.ensures.value, c.read_plain.ensures.words_after) (value-told a.grid a.file.now a.codes.now readers a.shared a.spot.depth x a.spot.at a.spot.used a.spot.parent _ v)

pub returns-in-Ok-Null : goal.returns-in-Ok-Null
unfolding seen
returns-in-Ok-Null c =
    λ rd readers x h l s.
    let a = c.args in
    let p = c.requires.0 in
    let small = small_by_index a.file.now (λ i h. omega (arith, c.type_inv.file i)) in
    let b = rw (c.in-Ok-Null.is, c.in-Ok-Null.field-0-is) at (starting (goal.at.returns-in-Ok-Null c).After-start rd readers x h l s p.place) in
    let free : Free a.grid a.words.now a.spot.used = record { long = p.long; there = b.free; few = omega (arith, b.free, p.few) } in
    rw (mapped c.leaf.result c.map-in-Ok-Null.result c.map-in-Ok-Null.ensures.cases, c.leaf.ensures.value, c.leaf.ensures.words_after, b.is a.shared a.spot.parent)
    (leaf_walked {A = ℕ} a.grid a.file.now a.words.now (head_of a.spot.used a.spot.at a.spot.parent 0 c.in-Ok-Null.padding) 0 nothing (read 0 _) free (
      b.ahead,
      omega (arith, b.inside, p.short),
    ) (null_pads a.file.now small a.spot.used a.spot.at a.spot.parent b.pads))

pub returns-in-Ok-Raw : goal.returns-in-Ok-Raw
returns-in-Ok-Raw c =
    λ rd readers x h l s.
    let a = c.args in
    let b = rw (c.in-Ok-Raw.is, c.in-Ok-Raw.field-0-is) at (starting (goal.at.returns-in-Ok-Raw c).After-start rd readers x h l s c.requires.0.place) in
    raw_steps a.grid a.file.now a.codes.now readers a.shared a.spot.depth (a.spot.depth - 1) x a.spot.at a.spot.used a.spot.parent _ _ _ _ a.words.now
    c.raw_step.new.words c.raw_step.result (omega (arith, b.deep)) b (c.raw_step.ensures readers b.type b.stands)

-- What the contracts of the walk state. Assumes nothing.
use Rattle.std.specs.Prelude.{◌≡◌, List, ℕ, Result}
use Rattle.answers.specs.declared.Refusal.{Refusal}
use Rattle.layout.specs.Target.{Target, kind_of}
use Rattle.layout.specs.Slot as L
use Rattle.table.specs.declared.Grid.{Grid}
use Rattle.walked.specs.declared.Head.{Head}
use Rattle.walked.specs.Contract.{Walk, seen, Walked}
use Rattle.readers.specs.declared.Readers.{Readers}
use Rattle.readers.specs.Listed.{Listed}
use Rattle.heads.specs.declared.slot.Slot.{Slot}
use Rattle.heads.specs.declared.nest.Nest.{Nest}
use Rattle.heads.specs.declared.nest.Below.{Below}
use Rattle.heads.specs.declared.nest.Below.TheVariants.{Nested}
use Rattle.heads.specs.Placed.{SlotIs}
use Rattle.heads.specs.Plans.{NestIs}
use Rattle.targets.specs.Code.{Stands}
use Rattle.objects.specs.Beginnings.{Has, position_at}
use Rattle.steps.specs.declared.Stepped.{Stepped}
use Rattle.steps.specs.declared.Children.{Children}
use Rattle.steps.specs.Walks.{OpenedAs}
use Rattle.steps.specs.Turns.{Counts, whole}
use Rattle.steps.specs.Steps.{RawSteps, Steps, raw_of}

-- a raw value of a kind, whose head was read up to `next`, is walked, or its children are left
abbrev pub FlatSteps : Grid → (file : List ℕ) (shared kind place : ℕ) → Head → (at depth next : ℕ) → Below → (entry exit : List ℕ) → Result Stepped Refusal → Type 0
FlatSteps g file shared kind place h at depth next below entry exit r =
    (codes : List ℕ) (readers : List Target) (t : Target) → Stands file codes place t → kind ≡ kind_of t → OpenedAs file codes t at next below → RawSteps g file codes readers shared depth t place h at entry exit r

-- a raw value of the type at a place is walked, or its children are left
abbrev pub PlacedSteps : Grid → (file codes : List ℕ) (shared place : ℕ) → Head → (at depth : ℕ) → (entry exit : List ℕ) → Result Stepped Refusal → Type 0
PlacedSteps g file codes shared place h at depth entry exit r =
    (readers : List Target) (t : Target) → Stands file codes place t → RawSteps g file codes readers shared depth t place h at entry exit r

-- the value in a slot is walked, or its children are left, for every reader list that has so many readers and the type that the value's type id names at a place
abbrev pub ValueSteps : Grid → (file codes entry exit : List ℕ) → Result Stepped Refusal → (count target shared : ℕ) → Slot → (at used depth parent : ℕ) → Type 0
ValueSteps g file codes entry exit r count target shared slot at used depth parent =
    (rd : Readers) (readers : List Target) (x : L.Slot) → Has rd count (position_at file at) target → Listed file codes rd readers → SlotIs file codes slot x → Steps g file codes readers shared depth x at used parent entry exit r

-- a raw value of the type at a place, whose head was read up to `next`, is walked with its children
abbrev pub RawWalks : Grid → (file codes : List ℕ) → Readers → (shared place : ℕ) → Head → (at next : ℕ) → Nest → (depth : ℕ) → (entry exit : List ℕ) → Walk → Type 0
RawWalks g file codes rd shared place h at next nest depth entry exit r =
    (readers : List Target) (t : Target) → Listed file codes rd readers → Stands file codes place t → OpenedAs file codes t at next (Nested nest) → Walked g file entry exit h.row.0 (seen (raw_of file readers shared g.room depth t h at)) r

-- the values of a nest are walked one after the other, under a parent
abbrev pub NestWalks : Grid → (file codes : List ℕ) → Readers → (shared : ℕ) → Nest → (at used depth parent : ℕ) → (entry exit : List ℕ) → Result Children Refusal → Type 0
NestWalks g file codes rd shared nest at used depth parent entry exit r =
    (readers : List Target) (plan : L.Plan) → Listed file codes rd readers → NestIs file codes nest plan → Counts g file entry exit used (whole g file codes readers shared depth plan entry at used parent) r

-- What stands below a value in code, and the plan that it goes by. Assumes nothing.
use Rattle.std.specs.Prelude.{◌≡◌, ℕ, ◌+◌, ◌*◌, ◌%◌, ◌^◌, cond, List, [], ◌∷◌, ◌++◌, length, drop, replicate, ◌==◌}
use Rattle.layout.specs.Slot as L
use Rattle.layout.specs.Slot.{Plan, stop, each, pairs, font_slots, page_slots}
use Rattle.leaves.specs.declared.plain.Plain.TheVariants.{Fixed, Reference}
use Rattle.leaves.specs.Like.{Alike}
use Rattle.leaves.specs.declared.run.Run.{Run}
use Rattle.meshes.specs.declared.Step.{Step}
use Rattle.meshes.specs.declared.Step.TheVariants.{End}
use Rattle.meshes.specs.declared.Stage.{Stage as Fields}
use Rattle.meshes.specs.declared.Field.{Field}
use Rattle.meshes.specs.declared.Field.TheVariants.{Plain, Text, Anything, Declaration}
use Rattle.meshes.specs.Stages.{stage_of, first_field, field_of, behind_of, told_size, told_at}
use Rattle.meshes.specs.Follows.{ended, Telling, Follows}
use Rattle.leaves.specs.Run.{run_slots, LawfulRun}
use Rattle.heads.specs.declared.slot.Slot.{Slot}
use Rattle.heads.specs.declared.slot.Slot.TheVariants.{Simple, Raw, Object}
use Rattle.heads.specs.declared.nest.Nest.{Nest}
use Rattle.heads.specs.declared.nest.Nest.TheVariants.{Each, Pairs, Font, Page, Mesh}
use Rattle.heads.specs.declared.nest.Stage.{Stage}
use Rattle.heads.specs.declared.nest.Below.{Below}
use Rattle.heads.specs.declared.nest.Below.TheVariants.{Nothing, Nested}
use Rattle.heads.specs.declared.nest.Below.TheVariants.{Simple as SimpleRun}
use Rattle.heads.specs.Placed.{SlotIs}

pub record EachIs (file codes : List ℕ) (s : Slot) (n : ℕ) (slots : List L.Slot) : Type 0 where
  pub slot : L.Slot
  pub are : slots ≡ replicate n slot
  pub is : SlotIs file codes s slot

pub record PairsAre (file codes : List ℕ) (s t : Slot) (n : ℕ) (slots : List L.Slot) : Type 0 where
  pub key : L.Slot
  pub value : L.Slot
  pub are : slots ≡ pairs n key value
  pub key_is : SlotIs file codes s key
  pub value_is : SlotIs file codes t value

-- the slots that stand below; a mesh's fields stand in no list that is known before they are read
abbrev pub SlotsAre : (file codes : List ℕ) → Nest → List L.Slot → Type 0
SlotsAre file codes (Each s n) slots = EachIs file codes s n slots
SlotsAre file codes (Pairs s t n) slots = PairsAre file codes s t n slots
SlotsAre file codes Font slots = slots ≡ font_slots
SlotsAre file codes Page slots = slots ≡ page_slots
SlotsAre file codes (Mesh kind) slots = ⊥

abbrev pub BelowIs : (file codes : List ℕ) → Below → List L.Slot → Type 0
BelowIs file codes (Nothing padding) slots = slots ≡ []
BelowIs file codes (SimpleRun run) slots = Alike slots (run_slots run) × LawfulRun run
BelowIs file codes (Nested nest) slots = SlotsAre file codes nest slots

-- the types that fonts, pages and meshes declare, at the start of the codes:
-- Texture2D, list of Rectangle, list of Char, list of Vector3, String, nullable Char, Object, VertexDeclaration
unfoldable pub prelude : List ℕ
prelude = 32 ∷ 82 ∷ 30 ∷ 82 ∷ 12 ∷ 82 ∷ 24 ∷ 13 ∷ 80 ∷ 12 ∷ 14 ∷ 38 ∷ []

pub record Prelude (codes : List ℕ) : Type 0 where
  pub rest : List ℕ
  pub begins : codes ≡ prelude ++ rest

unfoldable pub font_child : ℕ → Slot
font_child i =
    cond (i == 0) (Object 0) (cond (i == 1) (Object 1) (cond (i == 2) (Object 1) (cond (i == 3) (Object 3)
    (cond (i == 4) (Simple (Fixed 5 4)) (cond (i == 5) (Simple (Fixed 9 4)) (cond (i == 6) (Object 5) (Raw 8)))))))

unfoldable pub field_child : Field → Slot
field_child (Plain p) = Simple p
field_child Text = Object 7
field_child Anything = Object 10
field_child Declaration = Raw 11

unfoldable pub page_child : ℕ → Slot
page_child i = cond (i == 0) (Object 7) (cond (i == 1) (Simple (Fixed 30 16)) (cond (i == 2) (Simple (Reference 32)) (Simple (Reference 34))))

-- how many values there are up to a field of a mesh that stands next, unless its fields have ended
abbrev pub counted : (next : ℕ) → Fields → ℕ
counted next f = cond (ended f) next (next + 1)

-- the first of so many values, and a field of a mesh
abbrev pub listed : (count : ℕ) → Stage
listed count = record { next = 0; count = count; mesh = stage_of End 0 0 0 }

abbrev pub standing : (next : ℕ) → Fields → Stage
standing next f = record { next = next; count = counted next f; mesh = f }

-- how many values stand below, as far as is known, and the field that a mesh begins with
abbrev pub count_of : Nest → ℕ
count_of (Each s n) = n
count_of (Pairs s t n) = 2 * n
count_of Font = 8
count_of Page = 4
count_of (Mesh kind) = counted 0 (first_field kind)

abbrev pub fields_of : Nest → Fields
fields_of (Each s n) = stage_of End 0 0 0
fields_of (Pairs s t n) = stage_of End 0 0 0
fields_of Font = stage_of End 0 0 0
fields_of Page = stage_of End 0 0 0
fields_of (Mesh kind) = first_field kind

-- where a walk over a nest begins
abbrev pub begin_of : Nest → Stage
begin_of nest = record { next = 0; count = count_of nest; mesh = fields_of nest }

-- how the value that stands next in a nest stands
abbrev pub slot_at : Nest → Stage → Slot
slot_at (Each s n) stage = s
slot_at (Pairs s t n) stage = cond (stage.next % 2 == 0) s t
slot_at Font stage = font_child stage.next
slot_at Page stage = page_child stage.next
slot_at (Mesh kind) stage = field_child (field_of stage.mesh)

-- the field behind the one that stood next, whose first byte is at `at`, and how many values there are then
abbrev pub fields_after : (file : List ℕ) (at : ℕ) → Nest → Fields → Fields
fields_after file at (Each s n) f = f
fields_after file at (Pairs s t n) f = f
fields_after file at Font f = f
fields_after file at Page f = f
fields_after file at (Mesh kind) f = behind_of f (told_at file f.step at)

abbrev pub count_after : Nest → (next count : ℕ) → Fields → ℕ
count_after (Each s n) next count f = count
count_after (Pairs s t n) next count f = count
count_after Font next count f = count
count_after Page next count f = count
count_after (Mesh kind) next count f = counted next f

-- how far the walk is behind the value that stood next
abbrev pub after_of : (file : List ℕ) (at : ℕ) → Nest → Stage → Stage
after_of file at nest stage =
    let next = (stage.next + 1) % 2 ^ 32 in
    let f = fields_after file at nest stage.mesh in
    record { next = next; count = count_after nest next stage.count f; mesh = f }

-- the stage behind a value of so many
abbrev pub onward_of : Stage → Stage
onward_of stage = record { next = (stage.next + 1) % 2 ^ 32; count = stage.count; mesh = stage.mesh }

-- the plan that is left at a stage: of slots that are known, and of the fields of a mesh
pub record ListStage (file codes : List ℕ) (nest : Nest) (stage : Stage) (plan : Plan) : Type 0 where
  pub slots : List L.Slot
  pub are : SlotsAre file codes nest slots
  pub counts : stage.count ≡ length slots
  pub left : plan ≡ each (drop stage.next slots)

pub record MeshStage (stage : Stage) (plan : Plan) : Type 0 where
  pub follows : Follows stage.mesh plan
  pub counts : stage.count ≡ counted stage.next stage.mesh

abbrev pub StageIs : (file codes : List ℕ) → Nest → Stage → Plan → Type 0
StageIs file codes (Each s n) stage plan = ListStage file codes (Each s n) stage plan
StageIs file codes (Pairs s t n) stage plan = ListStage file codes (Pairs s t n) stage plan
StageIs file codes Font stage plan = ListStage file codes Font stage plan
StageIs file codes Page stage plan = ListStage file codes Page stage plan
StageIs file codes (Mesh kind) stage plan = MeshStage stage plan

-- the plan of a nest
abbrev pub NestIs : (file codes : List ℕ) → Nest → Plan → Type 0
NestIs file codes nest plan = StageIs file codes nest (begin_of nest) plan

-- the plan of what stands below
pub record RunPlan (run : Run) (plan : Plan) : Type 0 where
  pub slots : List L.Slot
  pub are : plan ≡ each slots
  pub alike : Alike slots (run_slots run)
  pub lawful : LawfulRun run

abbrev pub BelowPlan : (file codes : List ℕ) → Below → Plan → Type 0
BelowPlan file codes (Nothing padding) plan = plan ≡ stop
BelowPlan file codes (SimpleRun run) plan = RunPlan run plan
BelowPlan file codes (Nested nest) plan = NestIs file codes nest plan

-- the number that a value in a slot tells, if it tells one, is the one that stands at its first byte
abbrev pub Heard : (file : List ℕ) → L.Slot → (at told : ℕ) → Type 0
Heard file x at told = (step : Step) → Telling x (told_size step) → told_at file step at ≡ told

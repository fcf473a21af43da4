-- The stages follow the layout's plans: the field at a stage is what the plan puts next, and the stage behind it goes by the plan. Assumes nothing.
use Rattle.std.specs.Prelude.{◌≡◌, ℕ, zero, suc, ◌-◌, Bool, true, false, refl}
use Rattle.std.proofs.Common.{arith}
use Rattle.std.proofs.Math.Dec.{eqb-suc-zero}
use Rattle.laws.specs.Small.{differ}
use Rattle.layout.specs.Target.{fixed, string, object as anything, Mesh, index_buffer, vertex_declaration, vertex_buffer, model, mesh, mesh_kind}
use Rattle.layout.specs.Fixed.{sizes}
use Rattle.layout.specs.Slot as L
use Rattle.layout.specs.Slot.{Rule, uint_field, numeric, raw, object, leaf, Plan, stop, put}
use Rattle.layout.specs.Mesh.{times, then, uint, code, data_size, bone, element_plan, bone_plan, kin_plan, part_plan, mesh_plan, index_plan, declaration_plan, buffer_plan, model_plan, plan_of}
use Rattle.leaves.specs.Plain.{plain_slot, Lawful}
use Rattle.meshes.specs.declared.Step.{Step}
use Rattle.meshes.specs.declared.Step.TheVariants.{Flag, IndexData, Stride, ElementCount, Offset, Format, Usage, UsageIndex, VertexCount, VertexData, BoneCount, BoneName, BoneTransform, BoneParent, ChildCount, Child, MeshCount}
use Rattle.meshes.specs.declared.Step.TheVariants.{MeshName, MeshParent, Center, Radius, MeshTag, PartCount, VertexOffset, Vertices, StartIndex, Primitives, PartTag, VertexBuffer, IndexBuffer, Effect, Root, ModelTag, End}
use Rattle.meshes.specs.declared.Step.TheVariants.{DataSize as SizeField, Declaration as DeclarationField}
use Rattle.meshes.specs.declared.Stage.{Stage}
use Rattle.meshes.specs.declared.Field.{Field}
use Rattle.meshes.specs.declared.Field.TheVariants.{Plain, Text, Anything, Declaration}
use Rattle.meshes.specs.Stages.{stage_of, first_field, fields, field_of, behind_of, told_size, to_elements, to_names, to_parents, to_children, to_meshes, to_parts}

-- how a field stands
abbrev pub field_slot : Field → L.Slot
field_slot (Plain p) = plain_slot p
field_slot Text = object string
field_slot Anything = object anything
field_slot Declaration = raw (mesh vertex_declaration)

abbrev pub slot_at : Stage → L.Slot
slot_at s = field_slot (field_of s)

-- no field stands next
abbrev is_end : Step → Bool
is_end End = true
is_end _ = false

abbrev pub ended : Stage → Bool
ended s = is_end s.step

-- a field that is not the end stands next
pub not_ended : (s : Stage) → (s.step ≡ End → ⊥) → ended s ≡ false
not_ended s h = go s.step h where
  go : (k : Step) → (k ≡ End → ⊥) → is_end k ≡ false
  go End h = absurd (h refl)
  go _ h = refl

-- a value in this slot tells the number that stands in so many bytes from its first one on
pub data Telling : L.Slot → (size : ℕ) → Type 0 where
  by_flag : Telling (raw (fixed 11)) 1
  by_number : Telling (raw (fixed 6)) 4
  by_size : {rule : Rule} → Telling (leaf (numeric uint_field 4 rule)) 4
  by_stride : Telling (raw (mesh vertex_declaration)) 4

-- the plan from a stage on: nothing more; a field that tells how it goes on; or one that tells nothing
pub data Follows : Stage → Plan → Type 0 where
  ends : {s : Stage} → ended s ≡ true → Follows s stop
  hears : {s : Stage} {go : ℕ → Plan} → ended s ≡ false → Telling (slot_at s) (told_size s.step) → ((n : ℕ) → Follows (behind_of s n) (go n)) → Follows s (put (slot_at s) go)
  passes : {s : Stage} {rest : Plan} → ended s ≡ false → ((n : ℕ) → Follows (behind_of s n) rest) → Follows s (put (slot_at s) (λ n. rest))

one_less : (n : ℕ) → suc n - 1 ≡ n
one_less n = omega arith

elements : (n : ℕ) → Follows (to_elements n) (times n element_plan stop)
unfolding times element_plan then uint code field_of behind_of
elements zero = ends {s = stage_of End 0 0 0} refl
elements (suc l) =
    rw (eqb-suc-zero l, one_less l)
    (passes {s = stage_of Offset 0 l 0} refl (λ m. passes {s = stage_of Format 0 l 0} refl (λ m. passes {s = stage_of Usage 0 l 0} refl (λ m. passes {s = stage_of UsageIndex 0 l 0} refl (λ m. elements l)))))

parts : (b l : ℕ) {r : Plan} → Follows (to_meshes b l) r → (n : ℕ) → Follows (to_parts b l n) (times n part_plan r)
unfolding times part_plan then uint mesh_kind field_of behind_of
parts b l f zero = f
parts b l f (suc k) =
    rw (eqb-suc-zero k, one_less k)
    (passes {s = stage_of VertexOffset b l k} refl (λ m. passes {s = stage_of Vertices b l k} refl (λ m. passes {s = stage_of StartIndex b l k} refl (λ m. passes {s = stage_of Primitives b l k} refl (λ m.
    passes {s = stage_of PartTag b l k} refl (λ m. passes {s = stage_of VertexBuffer b l k} refl (λ m. passes {s = stage_of IndexBuffer b l k} refl (λ m. passes {s = stage_of Effect b l k} refl (λ m. parts b l f k)))))))))

meshes : (b n : ℕ) → Follows (to_meshes b n) (times n (mesh_plan b) (then (bone b) (then (object anything) stop)))
unfolding times mesh_plan then uint bone field_of behind_of
meshes b zero = passes {s = stage_of Root b 0 0} refl (λ m. passes {s = stage_of ModelTag b 0 0} refl (λ m. ends {s = stage_of End b 0 0} refl))
meshes b (suc l) =
    rw (eqb-suc-zero l, one_less l)
    (passes {s = stage_of MeshName b l 0} refl (λ m. passes {s = stage_of MeshParent b l 0} refl (λ m. passes {s = stage_of Center b l 0} refl (λ m. passes {s = stage_of Radius b l 0} refl (λ m.
    passes {s = stage_of MeshTag b l 0} refl (λ m. hears {s = stage_of PartCount b l 0} refl by_number (λ n. parts b l (meshes b l) n)))))))

children : (b l : ℕ) {r : Plan} → Follows (to_parents b l) r → (n : ℕ) → Follows (to_children b l n) (times n (then (bone b)) r)
unfolding times then bone field_of behind_of
children b l f zero = f
children b l f (suc k) = rw (eqb-suc-zero k, one_less k) (passes {s = stage_of Child b l k} refl (λ m. children b l f k))

parents : (b : ℕ) {r : Plan} → Follows (stage_of MeshCount b 0 0) r → (n : ℕ) → Follows (to_parents b n) (times n (kin_plan b) r)
unfolding times kin_plan then uint bone field_of behind_of
parents b f zero = f
parents b f (suc l) = rw (eqb-suc-zero l, one_less l) (passes {s = stage_of BoneParent b l 0} refl (λ m. hears {s = stage_of ChildCount b l 0} refl by_number (λ n. children b l (parents b f l) n)))

names : (b : ℕ) {r : Plan} → Follows (to_parents b b) r → (n : ℕ) → Follows (to_names b n) (times n bone_plan r)
unfolding times bone_plan then field_of behind_of
names b f zero = f
names b f (suc l) = rw (eqb-suc-zero l, one_less l) (passes {s = stage_of BoneName b l 0} refl (λ m. passes {s = stage_of BoneTransform b l 0} refl (λ m. names b f l)))

-- the stages start where the plans do
pub mesh_follows : (m : Mesh) → Follows (first_field (mesh_kind m)) (plan_of m)
unfolding first_field mesh_kind plan_of index_plan declaration_plan buffer_plan model_plan data_size then uint field_of behind_of
mesh_follows index_buffer =
    hears {s = stage_of Flag 0 0 0} refl by_flag (λ flag. hears {s = stage_of SizeField flag 0 0} refl by_size (λ size. passes {s = stage_of IndexData size 0 0} refl (λ m. ends {s = stage_of End 0 0 0} refl)))
mesh_follows vertex_declaration = passes {s = stage_of Stride 0 0 0} refl (λ m. hears {s = stage_of ElementCount 0 0 0} refl by_number (λ n. elements n))
mesh_follows vertex_buffer =
    hears {s = stage_of DeclarationField 0 0 0} refl by_stride (λ stride. hears {s = stage_of VertexCount stride 0 0} refl by_number (λ n. passes {s = stage_of VertexData stride n 0} refl (λ m. ends {s = stage_of End 0 0 0} refl)))
mesh_follows model = hears {s = stage_of BoneCount 0 0 0} refl by_number (λ b. names b (parents b (hears {s = stage_of MeshCount b 0 0} refl by_number (λ n. meshes b n)) b) b)

-- nothing stands next where the stages have ended
pub ends-stop : {s : Stage} {plan : Plan} → Follows s plan → ended s ≡ true → plan ≡ stop
ends-stop (ends e) q = refl
ends-stop (hears e t f) q = differ cc
ends-stop (passes e f) q = differ cc

-- else the plan puts a value in the field's slot, and the stage behind it goes by the plan if the number that it hears is the one that the value tells
pub record Next (s : Stage) (plan : Plan) : Type 0 where
  pub go : ℕ → Plan
  pub puts : plan ≡ put (slot_at s) go
  pub follows : (heard told : ℕ) → (Telling (slot_at s) (told_size s.step) → heard ≡ told) → Follows (behind_of s heard) (go told)

pub goes_on : {s : Stage} {plan : Plan} → Follows s plan → ended s ≡ false → Next s plan
goes_on (ends e) q = differ cc
goes_on {s} (hears {go = go} e t f) q = record { go = go; puts = refl; follows = λ heard told h. rw (h t) (f told) }
goes_on {s} (passes {rest = rest} e f) q = record { go = λ n. rest; puts = refl; follows = λ heard told h. f heard }

-- a field that needs no reader list is lawful
abbrev pub FieldLawful : Field → Type 0
FieldLawful (Plain p) = Lawful p
FieldLawful Text = Unit {0}
FieldLawful Anything = Unit {0}
FieldLawful Declaration = Unit {0}

lawful_at : (number left : ℕ) (k : Step) → FieldLawful (fields number left k)
unfolding sizes
lawful_at number left Flag = (refl, omega arith)
lawful_at number left SizeField = tt
lawful_at number left IndexData = tt
lawful_at number left Format = tt
lawful_at number left Usage = tt
lawful_at number left DeclarationField = tt
lawful_at number left VertexData = tt
lawful_at number left BoneName = tt
lawful_at number left BoneTransform = (refl, omega arith)
lawful_at number left BoneParent = tt
lawful_at number left Child = tt
lawful_at number left MeshName = tt
lawful_at number left MeshParent = tt
lawful_at number left Center = (refl, omega arith)
lawful_at number left Radius = (refl, omega arith)
lawful_at number left MeshTag = tt
lawful_at number left PartTag = tt
lawful_at number left VertexBuffer = tt
lawful_at number left IndexBuffer = tt
lawful_at number left Effect = tt
lawful_at number left Root = tt
lawful_at number left ModelTag = tt
lawful_at number left _ = (refl, omega arith)

pub field-lawful : (s : Stage) → FieldLawful (field_of s)
unfolding field_of
field-lawful s = lawful_at s.number s.left s.step

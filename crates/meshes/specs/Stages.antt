-- The fields of meshes one by one: where a walk stands, the field there, and where it stands behind it by what the field tells. Assumes nothing.
use Rattle.std.specs.Prelude.{ℕ, ◌-◌, ◌*◌, ◌%◌, ◌^◌, ◌<◌, ◌≤◌, cond, List, ◌==◌}
use Rattle.std.proofs.Common.{arith, mul-le-mul}
use Rattle.reading.specs.Answer.{Answer, refused, read}
use Rattle.reading.specs.Little.{little_at}
use Rattle.leaves.specs.declared.plain.Plain.TheVariants.{Fixed, Reference, Blob, Bone, Code, DataSize}
use Rattle.meshes.specs.declared.Step.{Step}
use Rattle.meshes.specs.declared.Step.TheVariants.{Flag, IndexData, Stride, ElementCount, Offset, Format, Usage, UsageIndex, VertexCount, VertexData, BoneCount, BoneName, BoneTransform, BoneParent, ChildCount, Child, MeshCount}
use Rattle.meshes.specs.declared.Step.TheVariants.{MeshName, MeshParent, Center, Radius, MeshTag, PartCount, VertexOffset, Vertices, StartIndex, Primitives, PartTag, VertexBuffer, IndexBuffer, Effect, Root, ModelTag, End}
use Rattle.meshes.specs.declared.Step.TheVariants.{DataSize as SizeField, Declaration as DeclarationField}
use Rattle.meshes.specs.declared.Stage.{Stage}
use Rattle.meshes.specs.declared.Field.{Field}
use Rattle.meshes.specs.declared.Field.TheVariants.{Plain, Text, Anything, Declaration}

abbrev pub stage_of : Step → (number left inner : ℕ) → Stage
stage_of step number left inner = record { step = step; number = number; left = left; inner = inner }

-- the field that stands first in a mesh type of a kind
unfoldable pub first_field : (kind : ℕ) → Stage
first_field kind = cond (kind == 37) (stage_of Flag 0 0 0) (cond (kind == 38) (stage_of Stride 0 0 0) (cond (kind == 39) (stage_of DeclarationField 0 0 0) (stage_of BoneCount 0 0 0)))

-- the fields by their steps; the steps that are not named are counts, strides, offsets and the other numbers of 000
abbrev pub fields : (number left : ℕ) → Step → Field
fields number left Flag = Plain (Fixed 11 1)
fields number left SizeField = Plain (DataSize number)
fields number left IndexData = Plain (Blob number)
fields number left Format = Plain (Code 11)
fields number left Usage = Plain (Code 12)
fields number left DeclarationField = Declaration
fields number left VertexData = Plain (Blob (left * number))
fields number left BoneName = Text
fields number left BoneTransform = Plain (Fixed 26 64)
fields number left BoneParent = Plain (Bone number)
fields number left Child = Plain (Bone number)
fields number left MeshName = Text
fields number left MeshParent = Plain (Bone number)
fields number left Center = Plain (Fixed 24 12)
fields number left Radius = Plain (Fixed 9 4)
fields number left MeshTag = Anything
fields number left PartTag = Anything
fields number left VertexBuffer = Plain (Reference 39)
fields number left IndexBuffer = Plain (Reference 37)
fields number left Effect = Plain (Reference 0)
fields number left Root = Plain (Bone number)
fields number left ModelTag = Anything
fields number left _ = Plain (Fixed 6 4)

-- how the field at a stage stands
unfoldable pub field_of : Stage → Field
field_of s = fields s.number s.left s.step

-- a block so many times, each but the last with one less left, and then what follows
abbrev pub blocks : (n : ℕ) (follows block : Stage) → Stage
blocks n follows block = cond (n == 0) follows block

abbrev pub to_elements : (n : ℕ) → Stage
to_elements n = blocks n (stage_of End 0 0 0) (stage_of Offset 0 (n - 1) 0)

abbrev pub to_parents : (bones n : ℕ) → Stage
to_parents bones n = blocks n (stage_of MeshCount bones 0 0) (stage_of BoneParent bones (n - 1) 0)

abbrev pub to_names : (bones n : ℕ) → Stage
to_names bones n = blocks n (to_parents bones bones) (stage_of BoneName bones (n - 1) 0)

abbrev pub to_children : (bones left n : ℕ) → Stage
to_children bones left n = blocks n (to_parents bones left) (stage_of Child bones left (n - 1))

abbrev pub to_meshes : (bones n : ℕ) → Stage
to_meshes bones n = blocks n (stage_of Root bones 0 0) (stage_of MeshName bones (n - 1) 0)

abbrev pub to_parts : (bones left n : ℕ) → Stage
to_parts bones left n = blocks n (to_meshes bones left) (stage_of VertexOffset bones left (n - 1))

-- the field behind one, in file order
abbrev pub next_step : Step → Step
next_step Flag = SizeField
next_step SizeField = IndexData
next_step IndexData = Stride
next_step Stride = ElementCount
next_step ElementCount = Offset
next_step Offset = Format
next_step Format = Usage
next_step Usage = UsageIndex
next_step UsageIndex = DeclarationField
next_step DeclarationField = VertexCount
next_step VertexCount = VertexData
next_step VertexData = BoneCount
next_step BoneCount = BoneName
next_step BoneName = BoneTransform
next_step BoneTransform = BoneParent
next_step BoneParent = ChildCount
next_step ChildCount = Child
next_step Child = MeshCount
next_step MeshCount = MeshName
next_step MeshName = MeshParent
next_step MeshParent = Center
next_step Center = Radius
next_step Radius = MeshTag
next_step MeshTag = PartCount
next_step PartCount = VertexOffset
next_step VertexOffset = Vertices
next_step Vertices = StartIndex
next_step StartIndex = Primitives
next_step Primitives = PartTag
next_step PartTag = VertexBuffer
next_step VertexBuffer = IndexBuffer
next_step IndexBuffer = Effect
next_step Effect = Root
next_step Root = ModelTag
next_step ModelTag = End
next_step End = End

-- the field behind one that is not the last of its block
abbrev pub onward_of : Stage → Stage
onward_of s = stage_of (next_step s.step) s.number s.left s.inner

-- the stage behind a field that told n
abbrev pub behind : Step → Stage → (n : ℕ) → Stage
behind Flag s n = stage_of SizeField n 0 0
behind SizeField s n = stage_of IndexData n 0 0
behind IndexData s n = stage_of End 0 0 0
behind ElementCount s n = to_elements n
behind UsageIndex s n = to_elements s.left
behind DeclarationField s n = stage_of VertexCount n 0 0
behind VertexCount s n = stage_of VertexData s.number n 0
behind VertexData s n = stage_of End 0 0 0
behind BoneCount s n = to_names n n
behind BoneTransform s n = to_names s.number s.left
behind ChildCount s n = to_children s.number s.left n
behind Child s n = to_children s.number s.left s.inner
behind MeshCount s n = to_meshes s.number n
behind PartCount s n = to_parts s.number s.left n
behind Effect s n = to_parts s.number s.left s.inner
behind _ s n = onward_of s

unfoldable pub behind_of : Stage → (n : ℕ) → Stage
behind_of s n = behind s.step s n

-- the number of a field that was read, as a word holds it
abbrev pub word_of : Answer ℕ → ℕ
word_of (refused n p) = 0
word_of (read n e) = n % 2 ^ 32

-- how many bytes a field that tells a number has for it: a flag one, all others four
abbrev pub told_size : Step → ℕ
told_size Flag = 1
told_size _ = 4

-- the number that the field at a place tells
unfoldable pub told_at : List ℕ → Step → (at : ℕ) → ℕ
told_at file step at = word_of (little_at file (told_size step) at at)

-- the product of two words fits 64 bits
pub words_product : (a b : ℕ) → a < 2 ^ 32 → b < 2 ^ 32 → a * b < 2 ^ 64
words_product a b h k =
    let m : a * b ≤ 4294967295 * 4294967295 = mul-le-mul {n₂ = 4294967295} {m₂ = 4294967295} (omega arith) (omega arith) in
    omega arith

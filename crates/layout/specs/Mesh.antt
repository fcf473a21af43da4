-- What stands in an index buffer, a vertex declaration, a vertex buffer and a model (02, Req 05: "children are all of 000's fields, counts and sizes in file order"). Assumes nothing.
use Rattle.std.specs.Prelude.{cond, ℕ, zero, suc, ◌*◌, eqb, ltb}
use Rattle.layout.specs.Target.{fixed, string, object as anything, Mesh, index_buffer, vertex_declaration, vertex_buffer, model, mesh, mesh_kind}
use Rattle.layout.specs.Slot.{at_most, multiple_of, bone_field, code_field, uint_field, Leaf, blob, numeric, Slot, raw, object, reference, leaf, Plan, stop, put}

-- 000: "Repeat <n> { .. }": a block so many times, and then the rest
unfoldable pub times : ℕ → (Plan → Plan) → Plan → Plan
times zero block rest = rest
times (suc n) block rest = block (times n block rest)

-- a value that tells nothing to those behind it
unfoldable pub then : Slot → Plan → Plan
then x rest = put x (λ n. rest)

unfoldable pub uint : Slot
uint = raw (fixed 6)

-- an Int32 that is one of the codes 0 to `last`; Req 05: "15 for .. codes 000 doesn't list"
abbrev pub code_leaf : (last : ℕ) → Leaf
code_leaf last = numeric code_field 4 (at_most last)

unfoldable pub code : (last : ℕ) → Slot
code last = leaf (code_leaf last)

-- the size of index data; Req 05: "Index data must be a multiple of 2 or 4 bytes as its flag says"; "index data's at its size"
abbrev pub size_leaf : (flag : ℕ) → Leaf
size_leaf flag = numeric uint_field 4 (multiple_of (cond (eqb flag 1) 2 4))

unfoldable pub data_size : (flag : ℕ) → Slot
data_size flag = leaf (size_leaf flag)

-- 000, "IndexBuffer": Boolean "Is 16 bit", "If false, index values are 32 bits in size"; UInt32 "Data size"; Byte [data size] "Index data"
unfoldable pub index_plan : Plan
index_plan = put (raw (fixed 11)) (λ flag. put (data_size flag) (λ size. then (leaf (blob size)) stop))

-- 000, "VertexDeclaration", of each element: UInt32 "Offset", Int32 "Element format" 0 to 11, Int32 "Element usage" 0 to 12, UInt32 "Usage index"
unfoldable pub element_plan : Plan → Plan
element_plan rest = then uint (then (code 11) (then (code 12) (then uint rest)))

-- UInt32 "Vertex stride"; UInt32 "Element count"; "Repeat <element count>"
unfoldable pub declaration_plan : Plan
declaration_plan = then uint (put uint (λ elements. times elements element_plan stop))

-- 000, "VertexBuffer": VertexDeclaration "Vertex declaration"; UInt32 "Vertex count"; Byte [vertex count * declaration.VertexStride] "Vertex data".
-- Req 05: "A vertex buffer's declaration stands raw and is never null"; it tells its stride.
unfoldable pub buffer_plan : Plan
buffer_plan = put (raw (mesh vertex_declaration)) (λ stride. put uint (λ vertices. then (leaf (blob (vertices * stride))) stop))

-- 000, "Model": "If bone count is less than 255 this value is serialized as a Byte, otherwise it is UInt32. If the reference value is zero the bone is null, otherwise (bone reference - 1) is an index into the model bone list."
-- Req 05: "A bone reference above the bone count is refused"
abbrev pub bone_leaf : (bones : ℕ) → Leaf
bone_leaf bones = numeric bone_field (cond (ltb bones 255) 1 4) (at_most bones)

unfoldable pub bone : (bones : ℕ) → Slot
bone bones = leaf (bone_leaf bones)

-- 000, "Model", of each bone: Object: String "Bone name"; Matrix "Bone transform"
unfoldable pub bone_plan : Plan → Plan
bone_plan rest = then (object string) (then (raw (fixed 26)) rest)

-- and, once all have these: BoneReference "Parent bone"; UInt32 "Child bone count"; "Repeat <child bone count>" BoneReference "Child bone"
unfoldable pub kin_plan : (bones : ℕ) → Plan → Plan
kin_plan bones rest = then (bone bones) (put uint (λ children. times children (then (bone bones)) rest))

-- of each part of a mesh: UInt32 "Vertex offset", "Num vertices", "Start index", "Primitive count"; Object "Mesh part tag";
-- shared resources "Vertex buffer", "Index buffer" and "Effect"; Req 05: "effects stay left out, so an effect reference must be null or name a null resource": no object has kind 0
unfoldable pub part_plan : Plan → Plan
part_plan rest =
    then uint (then uint (then uint (then uint (then (object anything)
    (then (reference (mesh_kind vertex_buffer)) (then (reference (mesh_kind index_buffer)) (then (reference 0) rest)))))))

-- of each mesh: Object: String "Mesh name"; BoneReference "Mesh parent bone"; "Mesh bounds", Req 05: "a bounding sphere as its Vector3 and Single"; Object "Mesh tag"; UInt32 "Mesh part count" and the parts
unfoldable pub mesh_plan : (bones : ℕ) → Plan → Plan
mesh_plan bones rest =
    then (object string) (then (bone bones) (then (raw (fixed 24)) (then (raw (fixed 9)) (then (object anything) (put uint (λ parts. times parts part_plan rest))))))

-- 000, "Model": UInt32 "Bone count" and the bones; UInt32 "Mesh count" and the meshes; BoneReference "Model root bone"; Object "Model tag"
unfoldable pub model_plan : Plan
model_plan =
    put uint (λ bones. times bones bone_plan (times bones (kin_plan bones)
    (put uint (λ meshes. times meshes (mesh_plan bones) (then (bone bones) (then (object anything) stop))))))

unfoldable pub plan_of : Mesh → Plan
plan_of index_buffer = index_plan
plan_of vertex_declaration = declaration_plan
plan_of vertex_buffer = buffer_plan
plan_of model = model_plan

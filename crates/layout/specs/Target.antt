-- The types that readers read (01, "Values and kinds"), each with its kind. Assumes nothing.
use Rattle.std.specs.Prelude.{Bool, true, false, List, ℕ}

-- 02, Req 05: "Add IndexBuffer, VertexDeclaration, VertexBuffer and Model from 000"
pub data Mesh : Type 0 where
  index_buffer vertex_declaration vertex_buffer model : Mesh
  deriving Discrete as mesh_discrete

-- 02, Req 05: "New kinds are 37 to 40 in the order named"
unfoldable pub mesh_kind : Mesh → ℕ
mesh_kind index_buffer = 37
mesh_kind vertex_declaration = 38
mesh_kind vertex_buffer = 39
mesh_kind model = 40

-- `fixed k` is the type of kind k, for a kind whose size 01 fixes; `enum` has its type's name and its size in bytes.
-- 01: "Targets are equal when heads and arguments are": equal targets are equal here.
pub data Target : Type 0 where
  fixed : ℕ → Target
  char string object texture texture_2d sprite_font page : Target
  mesh : Mesh → Target
  enum : (name : List ℕ) (size : ℕ) → Target
  nullable array list : Target → Target
  dictionary : Target → Target → Target
  deriving Discrete as target_discrete

-- 01: "Each kind has a number"
unfoldable pub kind_of : Target → ℕ
kind_of (fixed k) = k
kind_of char = 12
kind_of string = 13
kind_of object = 14
kind_of (enum name z) = 15
kind_of (nullable t) = 16
kind_of (array t) = 17
kind_of (list t) = 18
kind_of (dictionary k v) = 19
kind_of texture = 31
kind_of texture_2d = 32
kind_of sprite_font = 33
kind_of page = 34
kind_of (mesh m) = mesh_kind m

-- 01: "Value types are kinds 1 to 12, 15, 16 and 20 to 30"
unfoldable pub is_value : Target → Bool
is_value (fixed k) = true
is_value char = true
is_value string = false
is_value object = false
is_value (enum name z) = true
is_value (nullable t) = true
is_value (array t) = false
is_value (list t) = false
is_value (dictionary k v) = false
is_value texture = false
is_value texture_2d = false
is_value sprite_font = false
is_value page = false
is_value (mesh m) = false

-- an object declared d may be read by a reader of t: 01: "An object's reader must have the declared target; declared Object takes every target and declared Texture takes Texture2D"
pub data Serves : Target → Target → Type 0 where
  same : {t : Target} → Serves t t
  any : {t : Target} → Serves object t
  picture : Serves texture texture_2d

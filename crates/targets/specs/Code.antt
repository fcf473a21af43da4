-- Targets as codes: a word for each type, its arguments after it. Assumes nothing.
use Rattle.std.specs.Prelude.{◌≡◌, List, [], ◌∷◌, ◌++◌, ℕ, suc, ◌+◌, take, drop}
use Rattle.layout.specs.Name.{head_byte}
use Rattle.layout.specs.Target.{Target, fixed, char, string, object, texture, texture_2d, sprite_font, page, mesh, mesh_kind, enum, nullable, array, list, dictionary}
use Rattle.layout.specs.Named.{Lawful}
use Rattle.names.specs.Parse.{span}
use Rattle.names.specs.Kind.{word, enum_kind}

-- the types that fonts, pages and meshes declare stand in so many codes at the start of the array
abbrev pub prelude_size : ℕ
prelude_size = 12

-- the head that stands at a place of a file: as many bytes from there on as may stand in a head
unfoldable pub head_at : (file : List ℕ) (place : ℕ) → List ℕ
head_at file place = take (span head_byte (drop place file)) (drop place file)

-- the kind of a type in its code: 01's kind, or for an enum the one of its size
unfoldable pub code_kind : Target → ℕ
code_kind (fixed k) = k
code_kind char = 12
code_kind string = 13
code_kind object = 14
code_kind (enum name z) = enum_kind z
code_kind (nullable t) = 16
code_kind (array t) = 17
code_kind (list t) = 18
code_kind (dictionary k v) = 19
code_kind texture = 31
code_kind texture_2d = 32
code_kind sprite_font = 33
code_kind page = 34
code_kind (mesh m) = mesh_kind m

-- the code of a kind with no argument, at some place
unfoldable pub Alone : (kind : ℕ) → List ℕ → Type 0
Alone k ws = (place : ℕ) × (ws ≡ word k 0 place ∷ [])

-- the code of a kind with one argument, at some place, and the argument's codes
unfoldable pub Before : (kind : ℕ) → (List ℕ → Type 0) → List ℕ → Type 0
Before k argument ws = (place : ℕ) × (us : List ℕ) × (ws ≡ word k 1 place ∷ us) × argument us

-- the codes of a type: its kind, its number of arguments and a place, then the codes of its arguments; at the place of an enum stands its name in the file
unfoldable pub Coded : (file : List ℕ) → Target → List ℕ → Type 0
Coded file (fixed k) ws = Alone k ws
Coded file char ws = Alone 12 ws
Coded file string ws = Alone 13 ws
Coded file object ws = Alone 14 ws
Coded file (enum name z) ws = (place : ℕ) × (ws ≡ word (enum_kind z) 0 place ∷ []) × (head_at file place ≡ name)
Coded file (nullable t) ws = Before 16 (λ us. Coded file t us) ws
Coded file (array t) ws = Before 17 (λ us. Coded file t us) ws
Coded file (list t) ws = Before 18 (λ us. Coded file t us) ws
Coded file (dictionary k v) ws = (place : ℕ) × (us : List ℕ) × (vs : List ℕ) × (ws ≡ word 19 2 place ∷ (us ++ vs)) × Coded file k us × Coded file v vs
Coded file texture ws = Alone 31 ws
Coded file texture_2d ws = Alone 32 ws
Coded file sprite_font ws = Alone 33 ws
Coded file page ws = Alone 34 ws
Coded file (mesh m) ws = Alone (mesh_kind m) ws

-- how many codes a type has
unfoldable pub code_size : Target → ℕ
code_size (fixed k) = 1
code_size char = 1
code_size string = 1
code_size object = 1
code_size (enum name z) = 1
code_size (nullable t) = suc (code_size t)
code_size (array t) = suc (code_size t)
code_size (list t) = suc (code_size t)
code_size (dictionary k v) = suc (code_size k + code_size v)
code_size texture = 1
code_size texture_2d = 1
code_size sprite_font = 1
code_size page = 1
code_size (mesh m) = 1

-- a lawful type stands at a place: the codes from there on begin with its codes
pub record Stands (file codes : List ℕ) (place : ℕ) (t : Target) : Type 0 where
  pub lawful : Lawful t
  pub words : List ℕ
  pub rest : List ℕ
  pub coded : Coded file t words
  pub there : drop place codes ≡ words ++ rest

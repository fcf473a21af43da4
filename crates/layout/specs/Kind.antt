-- Which kinds heads name: the readers' heads, and the target names that stand as arguments (01, "Reader names"). Assumes nothing.
use Rattle.std.specs.Prelude.{Bool, true, false, ◌&&◌, cond, List, [], ◌∷◌, ◌++◌, ℕ, eqb}
use Prim.Native.String.{String}
use Rattle.layout.specs.Text.{ascii}

-- a head and the kind that it names
pub data KindEntry : Type 0 where
  kind_entry : (head : List ℕ) (kind : ℕ) → KindEntry

-- 01: "Reader heads are `Microsoft.Xna.Framework.Content.`, then the name of one of kinds 1 to 33 below, then `Reader`"
unfoldable pub reader : String → ℕ → KindEntry
reader s k = kind_entry (ascii "Microsoft.Xna.Framework.Content." ++ (ascii s ++ ascii "Reader")) k

-- the readers in the order of 000 and of 01's kinds, 01's "One house reader: `Coach.Console.PageReader`", and those of 02, Req 05
unfoldable pub readers : List KindEntry
readers =
    reader "Byte" 1 ∷ reader "SByte" 2 ∷ reader "Int16" 3 ∷ reader "UInt16" 4 ∷ reader "Int32" 5 ∷ reader "UInt32" 6
    ∷ reader "Int64" 7 ∷ reader "UInt64" 8 ∷ reader "Single" 9 ∷ reader "Double" 10 ∷ reader "Boolean" 11 ∷ reader "Char" 12
    ∷ reader "String" 13 ∷ reader "Object" 14 ∷ reader "Enum" 15 ∷ reader "Nullable" 16 ∷ reader "Array" 17 ∷ reader "List" 18
    ∷ reader "Dictionary" 19 ∷ reader "TimeSpan" 20 ∷ reader "DateTime" 21 ∷ reader "Decimal" 22 ∷ reader "Vector2" 23
    ∷ reader "Vector3" 24 ∷ reader "Vector4" 25 ∷ reader "Matrix" 26 ∷ reader "Quaternion" 27 ∷ reader "Color" 28
    ∷ reader "Point" 29 ∷ reader "Rectangle" 30 ∷ reader "Texture" 31 ∷ reader "Texture2D" 32 ∷ reader "SpriteFont" 33
    ∷ kind_entry (ascii "Coach.Console.PageReader") 34
    ∷ reader "IndexBuffer" 37 ∷ reader "VertexDeclaration" 38 ∷ reader "VertexBuffer" 39 ∷ reader "Model" 40 ∷ []

-- 01: "target type names as 000 gives them", with their namespace
unfoldable pub target : (space name : String) → ℕ → KindEntry
target space name k = kind_entry (ascii space ++ ascii name) k

-- 01: "Arguments are target type names as 000 gives them .., or `Coach.Console.Page`. Array and enum types are not known as arguments"; in the order of 000 and of 01's kinds.
-- 02, Req 05: "Their target names count among 01's: no enum, listed or not, may have one"
unfoldable pub targets : List KindEntry
targets =
    target "System." "Byte" 1 ∷ target "System." "SByte" 2 ∷ target "System." "Int16" 3 ∷ target "System." "UInt16" 4
    ∷ target "System." "Int32" 5 ∷ target "System." "UInt32" 6 ∷ target "System." "Int64" 7 ∷ target "System." "UInt64" 8
    ∷ target "System." "Single" 9 ∷ target "System." "Double" 10 ∷ target "System." "Boolean" 11 ∷ target "System." "Char" 12
    ∷ target "System." "String" 13 ∷ target "System." "Object" 14 ∷ target "System." "Nullable" 16
    ∷ target "System.Collections.Generic." "List" 18 ∷ target "System.Collections.Generic." "Dictionary" 19
    ∷ target "System." "TimeSpan" 20 ∷ target "System." "DateTime" 21 ∷ target "System." "Decimal" 22
    ∷ target "Microsoft.Xna.Framework." "Vector2" 23 ∷ target "Microsoft.Xna.Framework." "Vector3" 24
    ∷ target "Microsoft.Xna.Framework." "Vector4" 25 ∷ target "Microsoft.Xna.Framework." "Matrix" 26
    ∷ target "Microsoft.Xna.Framework." "Quaternion" 27 ∷ target "Microsoft.Xna.Framework." "Color" 28
    ∷ target "Microsoft.Xna.Framework." "Point" 29 ∷ target "Microsoft.Xna.Framework." "Rectangle" 30
    ∷ target "Microsoft.Xna.Framework.Graphics." "Texture" 31 ∷ target "Microsoft.Xna.Framework.Graphics." "Texture2D" 32
    ∷ target "Microsoft.Xna.Framework.Graphics." "SpriteFont" 33 ∷ target "Coach.Console." "Page" 34
    ∷ target "Microsoft.Xna.Framework.Graphics." "IndexBuffer" 37 ∷ target "Microsoft.Xna.Framework.Graphics." "VertexDeclaration" 38
    ∷ target "Microsoft.Xna.Framework.Graphics." "VertexBuffer" 39 ∷ target "Microsoft.Xna.Framework.Graphics." "Model" 40 ∷ []

-- two texts are equal
unfoldable pub alike : List ℕ → List ℕ → Bool
alike [] [] = true
alike [] (b ∷ t) = false
alike (a ∷ s) [] = false
alike (a ∷ s) (b ∷ t) = eqb a b && alike s t

-- the kind that a head names, 0 if it is not listed
unfoldable pub lookup : List ℕ → List KindEntry → ℕ
lookup h [] = 0
lookup h (kind_entry n k ∷ es) = cond (alike h n) k (lookup h es)

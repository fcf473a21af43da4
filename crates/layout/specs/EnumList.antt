-- The list of enum types that a caller lends (02, Req 02). Assumes nothing.
use Rattle.std.specs.Prelude.{◌≡◌, cond, List, [], ◌∷◌, ◌++◌, ◌⊎◌, ℕ, ◌≤◌, length}
use Rattle.layout.specs.Kind.{alike, lookup, targets}
use Rattle.layout.specs.Name.{NameHead}

-- 02: "a list of enum type names with sizes"
pub data EnumEntry : Type 0 where
  entry : (name : List ℕ) (size : ℕ) → EnumEntry

-- 02: "as bytes: for each a name length byte, the name, a size byte"
unfoldable pub write_enums : List EnumEntry → List ℕ
write_enums [] = []
write_enums (entry name size ∷ es) = length name ∷ (name ++ (size ∷ write_enums es))

-- 02: "with sizes 1, 2, 4 or 8"
unfoldable pub EnumSize : ℕ → Type 0
EnumSize size = (size ≡ 1) ⊎ ((size ≡ 2) ⊎ ((size ≡ 4) ⊎ (size ≡ 8)))

-- what 32 does not complain of in an entry by itself; 02: "a bad size, a name that is no head, one of 01's target names"
pub record EnumType (name : List ℕ) (size : ℕ) : Type 0 where
  pub sized : EnumSize size
  -- the length is one byte
  pub short : length name ≤ 255
  pub head : NameHead name
  pub untaken : lookup name targets ≡ 0

-- no entry has this name
unfoldable pub Unlisted : List ℕ → List EnumEntry → Type 0
Unlisted h [] = Unit {0}
Unlisted h (entry name size ∷ es) = (h ≡ name → ⊥) × Unlisted h es

-- the lists that 32 does not refuse; 02: "or one listed earlier": no later entry has an earlier one's name
unfoldable pub Enums : List EnumEntry → Type 0
Enums [] = Unit {0}
Enums (entry name size ∷ es) = EnumType name size × Unlisted name es × Enums es

-- the size that a list gives a name, 0 if it is not listed
unfoldable pub size_in : List EnumEntry → List ℕ → ℕ
size_in [] h = 0
size_in (entry name size ∷ es) h = cond (alike h name) size (size_in es h)

-- no lawful list is written with these bytes
abbrev pub Unlawful : List ℕ → Type 0
Unlawful s = (es : List EnumEntry) → Enums es → s ≡ write_enums es → ⊥

-- 02: "placed at the first such entry's number from 0": the entries before it are a lawful list, and no entry that would keep it lawful stands behind them
pub record FirstBad (s : List ℕ) (place : ℕ) : Type 0 where
  pub before : List EnumEntry
  pub keeps : Enums before
  pub place_is : place ≡ length before
  pub rest : List ℕ
  pub parts : s ≡ write_enums before ++ rest
  pub some : rest ≡ [] → ⊥
  pub bad : (name : List ℕ) (size : ℕ) (more : List ℕ) → rest ≡ write_enums (entry name size ∷ []) ++ more → Enums (before ++ (entry name size ∷ [])) → ⊥

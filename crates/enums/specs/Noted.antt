-- Entries whose names are all noted in a table of marks. Assumes nothing.
use Rattle.std.specs.Prelude.{◌≡◌, Bool, true, not, List, [], ◌∷◌, ℕ, eqb}
use Rattle.layout.specs.EnumList.{EnumEntry, entry, size_in}
use Rattle.seen_names.specs.Seen.{is_noted}

unfoldable pub AllNoted : (seen : List ℕ) → List EnumEntry → Type 0
AllNoted seen [] = Unit {0}
AllNoted seen (entry name size ∷ es) = (is_noted seen name ≡ true) × AllNoted seen es

-- one of the entries has this name, and a size
abbrev pub is_listed : List EnumEntry → (name : List ℕ) → Bool
is_listed es name = not (eqb (size_in es name) 0)

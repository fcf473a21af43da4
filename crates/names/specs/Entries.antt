-- The entries that bytes hold, whatever the bytes are: a name length byte, the name, a byte; and so on. Assumes nothing.
use Rattle.std.specs.Prelude.{Bool, not, cond, List, [], ◌∷◌, ℕ, zero, suc, eqb, ltb, length, take, drop, get_or}
use Rattle.layout.specs.Kind.{KindEntry, kind_entry}
use Rattle.layout.specs.EnumList.{EnumEntry, entry}
use Rattle.names.specs.Kind.{enum_kind}

-- at most so many whole entries
unfoldable pub entries_in : (most : ℕ) → List ℕ → List EnumEntry
entries_in zero s = []
entries_in (suc m) [] = []
entries_in (suc m) (l ∷ s) = cond (ltb l (length s)) (entry (take l s) (get_or s l 0) ∷ entries_in m (drop (suc l) s)) []

-- all whole entries from the first on
unfoldable pub entries_of : List ℕ → List EnumEntry
entries_of s = entries_in (length s) s

-- a size that has a kind
unfoldable pub is_size : ℕ → Bool
is_size z = not (eqb (enum_kind z) 0)

-- a size, or 0 for a number that is none
unfoldable pub lawful_size : ℕ → ℕ
lawful_size z = cond (is_size z) z 0

unfoldable pub lawfully : List EnumEntry → List EnumEntry
lawfully [] = []
lawfully (entry h z ∷ es) = entry h (lawful_size z) ∷ lawfully es

-- the enum types of a lent list, whatever its bytes are: a name with a size that is none counts as not listed
unfoldable pub enums_of : List ℕ → List EnumEntry
enums_of enums = lawfully (entries_of enums)

-- a table of heads and kinds in the same form
unfoldable pub listing : List KindEntry → List EnumEntry
listing [] = []
listing (kind_entry h k ∷ es) = entry h k ∷ listing es

-- Which lists of enum types are refused with 32, and at which entry (02, Req 02). Assumes nothing.
use Rattle.std.specs.Prelude.{Bool, true, false, ◌&&◌, List, [], ◌∷◌, ◌++◌, ℕ, zero, suc, eqb, ltb, length, take, drop, get_or}
use Rattle.layout.specs.Name.{head_byte, all}
use Rattle.layout.specs.Kind.{lookup, targets}
use Rattle.layout.specs.EnumList.{EnumEntry, entry, size_in}
use Rattle.names.specs.Entries.{is_size}

-- refused with a number at an entry's number from 0, or the entries
pub data Judgement : Type 0 where
  refused : (number entry : ℕ) → Judgement
  lawful : List EnumEntry → Judgement

-- 01: "The head is one or more ASCII letters, digits, `.`, `_`, `+`"
unfoldable pub is_head : List ℕ → Bool
is_head [] = false
is_head (b ∷ h) = all head_byte (b ∷ h)

-- an entry by itself; 02: "a bad size, a name that is no head, one of 01's target names"
unfoldable pub is_enum_type : (name : List ℕ) (size : ℕ) → Bool
is_enum_type name size = is_size size && (is_head name && eqb (lookup name targets) 0)

unfoldable pub check : Bool → (entry : ℕ) → Judgement → Judgement
check true i x = x
check false i x = refused 32 i

-- 02: "32 for an entry cut short, a bad size, a name that is no head, one of 01's target names or one listed earlier, placed at the first such entry's number from 0":
-- the bytes behind these earlier entries, with at most so many further ones
unfoldable pub enums_from : (most : ℕ) (earlier : List EnumEntry) → List ℕ → Judgement
enums_from zero earlier [] = lawful earlier
enums_from zero earlier (n ∷ s) = refused 32 (length earlier)
enums_from (suc k) earlier [] = lawful earlier
enums_from (suc k) earlier (n ∷ s) =
    check (ltb n (length s)) (length earlier)
    (check (is_enum_type (take n s) (get_or s n 0)) (length earlier)
    (check (eqb (size_in earlier (take n s)) 0) (length earlier)
    (enums_from k (earlier ++ (entry (take n s) (get_or s n 0) ∷ [])) (drop (suc n) s))))

-- a whole list: there are no more entries than bytes
unfoldable pub enums_at : List ℕ → Judgement
enums_at s = enums_from (length s) [] s

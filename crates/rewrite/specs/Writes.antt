-- What the contracts of writing number by number state. Assumes nothing.
use Rattle.std.specs.Prelude.{◌≡◌, List, [], ◌∷◌, ◌++◌, ℕ, ◌+◌, ◌-◌, ◌≤◌, length, drop}
use Rattle.layout.specs.Shortest.{short_file}
use Rattle.reading.specs.Seven.{seven_at}
use Rattle.numbers.specs.Padded.{number_of, past}
use Rattle.places.specs.Places.{entries_places, entries_end, lists_places}
use Rattle.rewrite.specs.declared.Cursor.{Cursor}
use Rattle.numbers.specs.declared.seven.Padded.{Padded}
use Rattle.rewrite.specs.Measured.{measure_of}
use Rattle.rewrite.specs.Pending.{Pending}
use Rattle.rewrite.specs.Contract.{Ready}

-- the output is written on by the numbers at these places
abbrev pub Writes : (file entry exit : List ℕ) → Cursor → (numbers : List ℕ) → Cursor → Type 0
Writes file entry exit c numbers r =
    (base places whole : List ℕ) → Pending file base entry c.from c.to (numbers ++ places) whole → Pending file base exit r.from r.to places whole

-- it is written on by the number at a place, if the number has this value and end
abbrev pub WritesNumber : (file entry exit : List ℕ) → Cursor → (at value next : ℕ) → Cursor → Type 0
WritesNumber file entry exit c at value next r =
    (base places whole : List ℕ) → value ≡ number_of (seven_at file at) → next ≡ past (seven_at file at) at
    → Pending file base entry c.from c.to (at ∷ places) whole → Pending file base exit r.from r.to places whole

-- the same where it has this padding too
abbrev pub PassesNumber : (file entry exit : List ℕ) → Cursor → (at : ℕ) → Padded → Cursor → Type 0
PassesNumber file entry exit c at m r =
    (base places whole : List ℕ) → m ≡ measure_of (seven_at file at) at
    → Pending file base entry c.from c.to (at ∷ places) whole → Pending file base exit r.from r.to places whole

-- it is written on by the last numbers of a file of this padding
abbrev pub WritesLast : (file entry exit : List ℕ) → Cursor → (numbers : List ℕ) (padding : ℕ) → Cursor → Type 0
WritesLast file entry exit c numbers padding r =
    (base whole : List ℕ) → length file ≡ length whole + padding → Pending file base entry c.from c.to numbers whole → Pending file base exit r.from r.to [] whole

-- nothing is written yet, and then the numbers of the lists
abbrev pub WritesLists : (file entry exit : List ℕ) (readers : ℕ) → Cursor → Type 0
WritesLists file entry exit readers r =
    (base places whole : List ℕ) → Pending file base entry 0 0 (lists_places file readers 10 ++ places) whole → Pending file base exit r.from r.to places whole

-- it is written on by the lengths of so many names, and the readers end at a place
abbrev pub WritesEntries : (file entry exit : List ℕ) → Cursor → (readers at : ℕ) → Cursor → (end : ℕ) → Type 0
WritesEntries file entry exit c readers at r end =
    (end ≡ entries_end file readers at)
    × ((base places whole : List ℕ) → Pending file base entry c.from c.to (entries_places file readers at ++ places) whole → Pending file base exit r.from r.to places whole)

-- no number is left, and the rest of the file is copied
abbrev pub WritesRest : (file entry exit : List ℕ) → Cursor → Type 0
WritesRest file entry exit c = (base whole : List ℕ) → Pending file base entry c.from c.to [] whole → exit ≡ whole ++ drop (length whole) base

-- the whole file is written, if there is room for its shortest bytes
abbrev pub WritesFile : (file table entry exit : List ℕ) (readers rows padding : ℕ) → Type 0
WritesFile file table entry exit readers rows padding =
    (w : Ready file table readers rows padding) → length file - padding ≡ length (short_file w.tree) → length file - padding ≤ length entry → exit ≡ short_file w.tree ++ drop (length file - padding) entry

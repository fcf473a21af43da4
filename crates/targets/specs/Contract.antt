-- What a reader's name comes to, and which codes are left. Assumes nothing.
use Rattle.std.specs.Prelude.{◌≡◌, Bool, true, false, cond, List, [], ◌∷◌, ℕ, ◌+◌, ◌%◌, eqb, leb, length, Result, Ok, Err}
use Rattle.std.proofs.lemmas.List.Edits.{sets}
use Rattle.layout.specs.EnumList.{EnumEntry}
use Rattle.layout.specs.Named.{Typed, unknown, known, reader_of}
use Rattle.layout.specs.Complaint.{reader_faults, leftmost}
use Rattle.names.specs.Parse.{Read, broken, name, name_of}
use Rattle.names.specs.Contract.{Answer, coded, refused, no_room, placed, ending}
use Rattle.names.specs.Kind.{node, codes}
use Rattle.names.specs.Heading.{headings}
use Rattle.names.specs.declared.parse.Unnamed.{Unnamed}
use Rattle.names.specs.declared.parse.Unnamed.TheVariants.{Broken as Unnamed-broken, NoRoom as Unnamed-no-room}
use Rattle.targets.specs.declared.Unresolved.{Unresolved}
use Rattle.targets.specs.declared.Unresolved.TheVariants.{Broken, Unknown, NoRoom}
use Rattle.targets.specs.Code.{code_size}

-- 01: "A head that is not listed, or a wrong argument count: 11"; 02: "10 becomes 33 to 38"
abbrev pub told : Result ℕ Unresolved → Answer
told (Ok used) = coded used
told (Err (Broken r)) = refused r.number r.place
told (Err (Unknown place)) = refused 11 place
told (Err NoRoom) = no_room

-- a name that has no codes has no target
abbrev pub unresolved : Unnamed → Unresolved
unresolved (Unnamed-broken r) = Broken r
unresolved Unnamed-no-room = NoRoom

-- a well-formed name, by its target and the places of the heads that are complained of
unfoldable pub judged : (used : ℕ) → List ℕ → Typed → Answer
judged used faults unknown = refused 11 (leftmost faults)
judged used faults (known t) = coded (used + code_size t)

-- 01: "grammar is judged over the whole name before heads"
unfoldable pub resolution : List EnumEntry → (placed : Bool) (room at used : ℕ) → Read → Answer
resolution es false room at used r = no_room
resolution es true room at used (broken m p hs) = refused m p
resolution es true room at used (name n k) = ending room (used + length (headings at n)) (judged used (reader_faults es at n) (reader_of es n))

-- the code of an enum type that is Enum's own argument: 02: "EnumReader for a listed name takes that size, for others four"
unfoldable pub enum_word : ℕ → ℕ
enum_word v = cond (eqb (v % 256) 0) (v + 62) v

-- the target of an enum's reader stands where the reader's own code was; every other one stands there already
unfoldable pub settled : List ℕ → List ℕ
settled [] = []
settled (w ∷ []) = w ∷ []
settled (w ∷ v ∷ ws) = cond (eqb (w % 256) (node 15 1)) (enum_word v ∷ v ∷ ws) (w ∷ v ∷ ws)

-- how many of them are the target's
unfoldable pub settled_size : List ℕ → ℕ
settled_size [] = 0
settled_size (w ∷ []) = 1
settled_size (w ∷ v ∷ ws) = cond (eqb (w % 256) (node 15 1)) 1 (2 + length ws)

-- the codes of the target, and after 11 those of all heads
unfoldable pub left : Typed → List ℕ → List ℕ
left unknown ws = ws
left (known t) ws = settled ws

-- with no room for a place nothing is written; after 33 to 38 the codes are those of the heads before the fault, as far as there is room;
-- with no room for the codes of all heads, they are as many of these as there is room for
unfoldable pub content : List EnumEntry → (placed : Bool) → (c : List ℕ) (at used : ℕ) → Read → List ℕ
content es false c at used r = c
content es true c at used (broken m p hs) = sets c used (codes es true hs)
content es true c at used (name n k) =
    cond (leb (used + length (headings at n)) (length c)) (sets c used (left (reader_of es n) (codes es true (headings at n)))) (sets c used (codes es true (headings at n)))

-- a whole reader name s whose first byte is at a place, under a list of enum types, and the codes before and after
pub record Resolves (es : List EnumEntry) (s : List ℕ) (at : ℕ) (c c' : List ℕ) (used : ℕ) (r : Result ℕ Unresolved) : Type 0 where
  pub answers : told r ≡ resolution es (placed s at used) (length c) at used (name_of at s)
  pub writes : c' ≡ content es (placed s at used) c at used (name_of at s)

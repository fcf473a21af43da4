-- What matching answers in code, by places in the XML. Assumes nothing.
use Rattle.std.specs.Prelude.{◌≡◌, Result, Ok, Err, Bool, not, ◌&&◌, List, [], ◌∷◌, ◌⊎◌, ℕ, ◌+◌, ◌-◌, ◌≤◌, ◌<◌, leb, eqb, length, take, drop, get_or}
use Rattle.layout.specs.Shortest.{short_file}
use Rattle.xml_escape.specs.Runs.{AllOf, First, Passed as Passed-of}
use Rattle.xml_layout.specs.Tree.{tree_of}
use Rattle.xml_layout.specs.Xml.{item_end}
use Rattle.xml_reading.specs.Match.{Match, fails, takes, or_else, until, other, document}
use Rattle.xml_reading.specs.Ranges.{Range, ranges}
use Rattle.xml_reading.specs.Text as T
use Rattle.xml_reading.specs.Plain.{plain_character, plain-matches}
use Rattle.xml_reading.specs.Import.{texts_of}
use Rattle.xml_escape.specs.Wrote.{Put}
use Rattle.xml_import.specs.declared.character.Entity.{Entity}
use Rattle.xml_import.specs.declared.Texted.{Texted}
use Rattle.xml_import.specs.declared.Measured.{Measured}

-- an ASCII character that stands as it is
unfoldable pub stands_alone : ℕ → Bool
stands_alone b = leb 0x20 b && (leb b 0x7F && (not (eqb b 0x22) && (not (eqb b 0x26) && (not (eqb b 0x3C) && not (eqb b 0x3E)))))

-- these four bytes stand from a place on
pub record Four (s : List ℕ) (at a b c d : ℕ) : Type 0 where
  pub first : get_or s at 0 ≡ a
  pub second : get_or s (at + 1) 0 ≡ b
  pub third : get_or s (at + 2) 0 ≡ c
  pub fourth : get_or s (at + 3) 0 ≡ d

-- the same of a list of four
abbrev pub FourAt : (w s : List ℕ) (at : ℕ) → Type 0
FourAt w s at = Four s at (get_or w 0 0) (get_or w 1 0) (get_or w 2 0) (get_or w 3 0)

-- a matcher fails from a place on: the bytes before another place agree
abbrev pub FailsAt : {A : Type 0} → Match A → (at place : ℕ) → Type 0
FailsAt m at place = (n : ℕ) × (m ≡ fails n) × (place ≡ at + n)

-- a matcher takes a value from a place on, up to another
abbrev pub TakesAt : {A : Type 0} → Match A → A → (xml : List ℕ) (at next : ℕ) → Type 0
TakesAt m a xml at next = (m ≡ takes a (drop next xml)) × (at < next) × (next ≤ length xml)

-- the bytes from a place to another
abbrev pub part : (xml : List ℕ) (at next : ℕ) → List ℕ
part xml at next = take (next - at) (drop at xml)

-- a matcher of bytes
abbrev pub MatchAt : Match (List ℕ) → (xml : List ℕ) (at : ℕ) → Result ℕ ℕ → Type 0
MatchAt m xml at (Err place) = FailsAt m at place
MatchAt m xml at (Ok next) = TakesAt m (part xml at next) xml at next

unfoldable pub RangesAt : List Range → (xml : List ℕ) (at : ℕ) → Result ℕ ℕ → Type 0
RangesAt rs xml at r = MatchAt (ranges rs (drop at xml)) xml at r

-- behind EF hex
unfoldable pub TopAt : (xml : List ℕ) (at : ℕ) → Result ℕ ℕ → Type 0
TopAt xml at r = MatchAt (or_else (ranges ((0x80, 0xBE) ∷ (0x80, 0xBF) ∷ []) (drop at xml)) (ranges ((0xBF, 0xBF) ∷ (0x80, 0xBD) ∷ []) (drop at xml))) xml at r

-- a character that stands as it is
unfoldable pub PlainAt : (xml : List ℕ) (at : ℕ) → Result ℕ ℕ → Type 0
PlainAt xml at r = MatchAt (plain_character (drop at xml)) xml at r

abbrev pub character : List ℕ → Match (List ℕ)
character l = T.character plain-matches l

abbrev pub text : List ℕ → Match (List ℕ)
text l = T.text plain-matches l

-- an entity, as a character of the XML
unfoldable pub EntityAt : (xml : List ℕ) (at : ℕ) → Result Entity ℕ → Type 0
EntityAt xml at (Err place) = FailsAt (character (drop at xml)) at place
EntityAt xml at (Ok e) = TakesAt (character (drop at xml)) (e.byte ∷ []) xml at e.next

abbrev pub entity : (byte next : ℕ) → Result Entity ℕ
entity byte next = Ok (record { byte = byte; next = next })

-- characters that stand as they are
unfoldable pub Chars : List (List ℕ) → Type 0
Chars [] = Unit {0}
Chars (t ∷ ts) = T.Plain t t × Chars ts

-- such characters stand one after the other from a place to another
pub record CharsStand (xml : List ℕ) (from to : ℕ) : Type 0 where
  pub forward : from ≤ to
  pub inside : to ≤ length xml
  pub chars : List (List ℕ)
  pub plain : Chars chars
  pub parts : part xml from to ≡ T.joined chars

-- the text from a place on was taken before
abbrev pub Known : (xml : List ℕ) (at : ℕ) → Type 0
Known xml at = (us : List (List ℕ)) × (rest : List ℕ) × (until character item_end (drop at xml) ≡ takes us rest)

-- such characters, if the text was taken before
pub record Runs (xml : List ℕ) (from to : ℕ) : Type 0 where
  pub forward : from ≤ to
  pub inside : to ≤ length xml
  pub stands : Known xml from → CharsStand xml from to

-- a byte that starts no entity and no end of an item
pub record Unmarked (b : ℕ) : Type 0 where
  pub no_and : b ≡ 0x26 → ⊥
  pub no_less : b ≡ 0x3C → ⊥

-- a byte that starts one of them
unfoldable pub Marked : ℕ → Type 0
Marked b = (b ≡ 0x26) ⊎ (b ≡ 0x3C)

-- n bytes from a place on
abbrev pub AllUnmarked : (xml : List ℕ) (i n : ℕ) → Type 0
AllUnmarked = AllOf Unmarked

-- how many of n bytes stand before the first that is marked
abbrev pub Before : (xml : List ℕ) (i n r : ℕ) → Type 0
Before = First Unmarked Marked

-- those from one place to a later one
abbrev pub Passed : (xml : List ℕ) (from i : ℕ) → Type 0
Passed = Passed-of Unmarked

-- and no more of them
pub record Stops (xml : List ℕ) (from i : ℕ) : Type 0 where
  pub passed : Passed xml from i
  pub marked : i < length xml → Marked (get_or xml i 0)

-- they are put into the output from a place on
pub record RunPut (xml : List ℕ) (from to : ℕ) (entry exit : List ℕ) (i : ℕ) : Type 0 where
  pub stops : Stops xml from i
  pub put : Put (part xml from i) to entry exit

-- the text of an item, of which so many bytes are taken, and the item's end
unfoldable pub TextAt : (xml : List ℕ) (at : ℕ) → Result Texted ℕ → Type 0
TextAt xml at (Err place) = FailsAt (text (drop at xml)) at place
TextAt xml at (Ok r) = (t : List ℕ) × (r.size ≡ length t) × TakesAt (text (drop at xml)) t xml at r.next × (r.size + 7 ≤ r.next - at)

abbrev pub texted : (size next : ℕ) → Result Texted ℕ
texted size next = Ok (record { size = size; next = next })

-- the whole XML: how many texts it has, and how many bytes the file built from them
unfoldable pub Measures : (xml : List ℕ) → Result Measured ℕ → Type 0
Measures xml (Err place) = texts_of xml ≡ other place
Measures xml (Ok r) = (ts : List (List ℕ)) × (texts_of xml ≡ document ts) × (r.count ≡ length ts) × (r.size ≡ length (short_file (tree_of ts)))

abbrev pub measured : (count size : ℕ) → Result Measured ℕ
measured count size = Ok (record { count = count; size = size })

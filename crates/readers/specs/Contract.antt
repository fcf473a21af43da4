-- What reading the reader list and the shared count answers, and what it leaves in the codes. Assumes nothing.
use Rattle.std.specs.Prelude.{Result, Ok, Err, ◌≡◌, Bool, true, false, List, [], ℕ, ◌+◌, ◌<◌, ◌≤◌, leb, length, take, drop, get_or}
use Rattle.layout.specs.Target.{Target}
use Rattle.layout.specs.EnumList.{EnumEntry}
use Rattle.targets.specs.Code.{prelude_size}
use Rattle.reading.specs.Answer.{Answer, refused, read, bind, check}
use Rattle.reading.specs.Seven.{seven_at}
use Rattle.reading.specs.File.{readers_at, lists_at}
use Rattle.numbers.specs.Padded.{pad_of}
use Rattle.places.specs.Places.{entries_places, entries_end, lists_places}
use Rattle.places.specs.Padding.{padding}
use Rattle.readers.specs.declared.Readers.{Readers}
use Rattle.readers.specs.declared.Lists.{Lists}
use Rattle.readers.specs.declared.Unlisted.{Unlisted}
use Rattle.readers.specs.declared.Unlisted.TheVariants.{Refused, NoRoom}
use Rattle.readers.specs.Listed.{Listed}
use Rattle.readers.specs.Judged.{judged_name}
use Rattle.readers.specs.Parts.{up_to}
use Rattle.readers.specs.Left.{enough}

-- what the names, the targets and the shared count are read as
abbrev pub Reading : Type 0
Reading = Answer (List (List ℕ) × List Target × ℕ)

-- n readers and the shared count, behind the reader count
unfoldable pub counted_at : List EnumEntry → (file : List ℕ) (n at : ℕ) → Reading
counted_at es file n at = bind (readers_at (judged_name es) file n at) (λ l e. bind (up_to 256 file e) (λ s next. read (l.0, l.1, s) next))

-- the lists of a file; 01: "longer than 16,777,216 bytes is 9 at 0"
unfoldable pub lists_of : List EnumEntry → (file : List ℕ) (at : ℕ) → Reading
lists_of es file at = check (leb (length file) 16777216) 9 0 (lists_at (judged_name es) file at)

-- the reader list that two arrays and a count make
abbrev pub listing : (targets starts : List ℕ) (count : ℕ) → Readers
listing targets starts count = record { targets = targets; starts = starts; count = count }

-- the lists were read: the targets stand in the codes behind the prelude, and each name stands in the file at its start
pub record ListsRead (x : Reading) (file codes codes' targets starts : List ℕ) (count shared next : ℕ) : Type 0 where
  pub names : List (List ℕ)
  pub readers : List Target
  pub answer : x ≡ read (names, readers, shared) next
  pub shared_few : shared ≤ 256
  pub paired : length names ≡ length readers
  pub listed : Listed file codes' (listing targets starts count) readers
  pub codes_size : length codes' ≡ length codes
  pub targets_size : length targets ≡ 64
  pub starts_size : length starts ≡ 64
  pub kept : take prelude_size codes' ≡ take prelude_size codes
  pub named : (i : ℕ) → i < length names → take (length (get_or names i [])) (drop (get_or starts i 0) file) ≡ get_or names i []

-- the code answers what reading answers, and the padding of the numbers of so many readers, if there is room for the codes
abbrev pub ReadsLists : (x : Reading) (total : (count : ℕ) → ℕ) (room : Bool) (file codes codes' targets starts : List ℕ) → Result Lists Unlisted → Type 0
ReadsLists x total room file codes codes' targets starts (Err (Refused e)) = (room ≡ true) × (x ≡ refused e.number e.place)
ReadsLists x total room file codes codes' targets starts (Ok r) =
    (room ≡ true) × ListsRead x file codes codes' targets starts r.readers r.shared r.next × (r.padding ≡ total r.readers)
ReadsLists x total room file codes codes' targets starts (Err NoRoom) = room ≡ false

-- the padding of the numbers of so many readers: from the reader count at `at` on, and behind one that has the padding `own`
unfoldable pub lists_total : (file : List ℕ) (at : ℕ) → (count : ℕ) → ℕ
lists_total file at count = padding file (lists_places file count at)

unfoldable pub counted_total : (file : List ℕ) (at own : ℕ) → (count : ℕ) → ℕ
counted_total file at own count = own + padding file (entries_places file count at) + pad_of (seven_at file (entries_end file count at)) (entries_end file count at)

-- behind the reader count, which has the padding `own`
abbrev pub ReadsCounted : (es : List EnumEntry) (file : List ℕ) (n at own : ℕ) (codes codes' targets starts : List ℕ) → Result Lists Unlisted → Type 0
ReadsCounted es file n at own codes codes' targets starts r =
    ReadsLists (counted_at es file n at) (counted_total file at own) true file codes codes' targets starts r

-- from the reader count on
abbrev pub ReadsListsAt : (es : List EnumEntry) (file : List ℕ) (at : ℕ) (codes codes' targets starts : List ℕ) → Result Lists Unlisted → Type 0
ReadsListsAt es file at codes codes' targets starts r =
    ReadsLists (lists_of es file at) (lists_total file at) (enough file at (length codes)) file codes codes' targets starts r

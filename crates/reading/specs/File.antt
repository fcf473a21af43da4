-- What loading a file answers: the first fault in file order with its number and place, or the rows, the number of readers and the shared count (01, "File header", "The row table" and "Refusals"). Assumes nothing.
use Rattle.std.specs.Prelude.{◌≡◌, Bool, ◌||◌, List, [], ◌∷◌, ℕ, zero, suc, ◌-◌, ltb, leb, eqb, length, take, drop, get_or, replicate}
use Rattle.layout.specs.EnumList.{EnumEntry}
use Rattle.layout.specs.Named.{named}
use Rattle.layout.specs.Target.{Target}
use Rattle.layout.specs.File.{FileTree, objects_plan}
use Rattle.layout.specs.Rows.{Row}
use Rattle.layout.specs.Number.{value_of}
use Rattle.layout.specs.Table.{room_of, Shape, by_rows, table}
use Rattle.reading.specs.Answer.{Answer, refused, read, bind, check, several, within}
use Rattle.reading.specs.Reads.{some}
use Rattle.reading.specs.Seven.{seven_at}
use Rattle.reading.specs.Little.{little_at}
use Rattle.reading.specs.Resource.{suits}
use Rattle.reading.specs.Walk.{Taken, Outcome, sequence, walk}
use Rattle.reading.specs.Drafts.{Draft, bare}

-- 01, offset 3: "`w`, `m` or `x`"
unfoldable pub is_platform : ℕ → Bool
is_platform b = eqb b 0x77 || (eqb b 0x6D || eqb b 0x78)

-- header bytes 3 and 5, and where the header ends. 01: "Before these: longer than 16,777,216 bytes is 9 at 0; shorter than 10 is 1 at 0. Then in table order".
unfoldable pub header_at : List ℕ → Answer (ℕ × ℕ)
header_at file =
    check (leb (length file) 16777216) 9 0
    (check (leb 10 (length file)) 1 0
    (check (eqb (get_or file 0 0) 0x58) 2 0
    (check (eqb (get_or file 1 0) 0x4E) 2 0
    (check (eqb (get_or file 2 0) 0x42) 2 0
    (check (is_platform (get_or file 3 0)) 3 3
    (check (eqb (get_or file 4 0) 5) 4 4
    (check (ltb (get_or file 5 0) 0x80) 5 5
    (check (leb (get_or file 5 0) 1) 6 5
    (check (eqb (value_of (take 4 (drop 6 file))) (length file)) 7 6
    (read (get_or file 3 0, get_or file 5 0) 10))))))))))

-- what a reader's name is read as: refused with a number at a place of the file (11, or 33 to 38 of 02), or a reader of a target
pub data Named : Type 0 where
  unknown : (number place : ℕ) → Named
  known : Target → Named

-- the reading of names says just what the layout's relation says, wherever a name stands
pub record Judges (es : List EnumEntry) (name_of : ℕ → List ℕ → Named) : Type 0 where
  pub known_sound : (first : ℕ) (name : List ℕ) (t : Target) → name_of first name ≡ known t → named es name t
  pub known_complete : (first : ℕ) (name : List ℕ) (t : Target) → named es name t → name_of first name ≡ known t

-- a name that ends before `at`, by what it is read as
unfoldable pub judge : Named → (at : ℕ) → Answer Target
judge (unknown number place) at = refused number place
judge (known t) at = read t at

-- the kinds of the rows that have no parent: those of the primary and the shared objects, in order
unfoldable pub root_kind : (parent kind : ℕ) → List ℕ → List ℕ
root_kind zero kind kinds = kind ∷ kinds
root_kind (suc parent) kind kinds = kinds

unfoldable pub root_kinds : List Draft → List ℕ
root_kinds [] = []
root_kinds (d ∷ rows) = root_kind d.row.parent d.row.kind (root_kinds rows)

-- 01: "17 last, in row order", at the reference: what each row wants of the shared objects, which have these kinds
unfoldable pub judged : {A : Type 0} → (shared : List ℕ) → List Draft → Answer A → Answer A
judged shared [] x = x
judged shared (d ∷ rows) x = check (suits shared d.wants d.row.detail) 17 d.row.first (judged shared rows x)

-- a file that was read: its file tree, which no program holds, its rows, the number of readers and the shared count
pub record Loaded : Type 0 where
  pub tree : FileTree
  pub rows : List Draft
  pub readers : ℕ
  pub shared : ℕ

module _ (file : List ℕ) where
  -- the primary and the shared objects, which have no parent; 01: "to depth 32, the primary and each shared object being depth 1"
  unfoldable pub objects_at : (room : ℕ) (readers : List Target) (shared at : ℕ) → Outcome
  objects_at room readers shared at = sequence (λ x a used. walk file readers shared room 32 x a used 0) (objects_plan shared) at 0

  -- 01: "20 after the last object, 17 last"
  unfoldable pub finished : (platform flags : ℕ) (names : List (List ℕ)) (readers shared : ℕ) → Taken → ℕ → Answer Loaded
  finished platform flags names readers shared a e =
      check (eqb e (length file)) 20 e
      (judged (drop 1 (root_kinds a.1)) a.1
      (read (record {
        tree = record { platform = platform; flags = flags; names = names; objects = a.2 };
        rows = a.1;
        readers = readers;
        shared = shared;
      }) e))

module _ (name_of : ℕ → List ℕ → Named) (file : List ℕ) where
  -- a reader: its name and its target. 01: "A reader's name is judged in full (9, 1, 10, 11) before its version", 10 being 33 to 38 by 02; missing bytes of a name are placed at its count.
  unfoldable pub reader_at : ℕ → Answer (List ℕ × Target)
  reader_at at =
      bind (seven_at file at) (λ n first. check (within 1024 n) 9 at
      (bind (some file n at first) (λ name end. bind (judge (name_of first name) end) (λ t version.
      bind (little_at file 4 version version) (λ v next. check (eqb v 0) 12 version (read (name, t) next))))))

  -- so many readers: their names, and their targets
  unfoldable pub readers_at : (n at : ℕ) → Answer (List (List ℕ) × List Target)
  readers_at n at = several ([], []) (λ a l. (a.0 ∷ l.0, a.1 ∷ l.1)) reader_at n at

  -- 01: "reader count (0 to 64), the readers, shared count (0 to 256)": the names, the targets and the shared count
  unfoldable pub lists_at : ℕ → Answer (List (List ℕ) × List Target × ℕ)
  lists_at at =
      bind (seven_at file at) (λ n e. check (leb n 64) 9 at
      (bind (readers_at n e) (λ l shared. bind (seven_at file shared) (λ s next. check (leb s 256) 9 shared (read (l.0, l.1, s) next)))))

  -- the whole file, where the table has room for so many rows
  unfoldable pub file_at : (room : ℕ) → Answer Loaded
  file_at room =
      bind (header_at file) (λ h at. bind (lists_at at) (λ l first. bind (objects_at file room l.1 l.2 first) (λ a e.
      finished file h.0 h.1 l.0 (length l.1) l.2 a e)))

-- what a program is told: a refusal's number and place, or the rows, the number of readers and the shared count
pub data Load : Type 0 where
  refusal : (number place : ℕ) → Load
  accepted : (rows : List Row) (readers shared : ℕ) → Load

unfoldable pub to_load : Answer Loaded → Load
to_load (refused number place) = refusal number place
to_load (read a e) = accepted (bare a.rows) a.readers a.shared

-- what loading answers for a file, where so many words are lent
unfoldable pub load_of : (ℕ → List ℕ → Named) → (file : List ℕ) (words : ℕ) → Load
load_of name_of file words = to_load (file_at name_of file (room_of words))

-- what loading leaves in the words lent, by rows or in columns: the table of the rows, and only zeros after a refusal
unfoldable pub table_in : Shape → Load → (words : ℕ) → List ℕ
table_in s (refusal number place) words = replicate words 0
table_in s (accepted rows readers shared) words = table s rows words

-- by rows
abbrev pub table_of : Load → (words : ℕ) → List ℕ
table_of x words = table_in by_rows x words

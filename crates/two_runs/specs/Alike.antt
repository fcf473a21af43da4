-- Req 12 of the code, "Typed text never steers": what is demanded of two runs over files that differ in typed text alone. Each statement is the contract of a
-- function that calls the code. Assumes nothing.
use Rattle.std.specs.Prelude.{◌≡◌, Bool, List, [], ◌⊎◌, ℕ, ◌+◌, ◌*◌, ◌<◌, ◌≤◌, get_or, Ok, Result}
use Rattle.layout.specs.Rows.{width}
use Rattle.layout.specs.Table.{room_of, shape_of}
use Rattle.reading.specs.File.{table_in}
use Rattle.load.specs.Under.{load_under}
use Rattle.load.specs.Loads.{answer_of}
use Rattle.load.specs.Loads.{Loading}
use Rattle.rewrite.specs.Whole.{rewritten}
use Rattle.rewrite.specs.Contract as rewriting
use Rattle.builder.specs.Packed.{packed}
use Rattle.table.specs.declared.Grid.{Grid}
use Rattle.table.specs.Grids.{cell_of, grid_of}
use Rattle.table.specs.Same.{SameRows}
use Rattle.retyped.specs.Texts.{Span, InText}
use Rattle.lookups.specs.Parts.{part_of}
use Rattle.lookups.specs.Texts.{text_of}
use Rattle.lookups.specs.Signs.{signed_of}
use Rattle.lookups.specs.Times.{time_of}
use Rattle.branches.specs.Next.{next_of}
use Rattle.two_runs.specs.Texts.{Read, SameButTexts}
use Rattle.theorems.specs.declared.columned.Lookups.{Lookups}
use Rattle.answers.specs.declared.Refusal.{Refusal}
use Rattle.theorems.specs.declared.Two.{Two}
use Rattle.lookups.specs.Parts.{span}

-- What a load by rows or in columns answers and leaves, and a rewrite, a load by an asset builder and the lookups after a load answer: these are second contracts, so that no
-- program meets the first ones by answering the same to every file.
abbrev pub LoadIs : (columns : Bool) (enums file : List ℕ) (n : ℕ) (left : List ℕ) → Loading → Type 0
LoadIs columns enums file n left r = (r ≡ answer_of file (load_under enums file n)) × (left ≡ table_in (shape_of columns) (load_under enums file n) n)

abbrev pub RewriteIs : (enums file words out : List ℕ) → Result ℕ Refusal → Type 0
RewriteIs enums file words out r = r ≡ rewriting.answer_of (rewritten enums file words out)

abbrev pub NumberIs : (file : List ℕ) (r : ℕ) → Type 0
NumberIs file r = r ≡ packed (load_under [] file (1024 * width))

-- For two files that are loaded, by rows or in columns: the lent list of enum types, the files, the numbers of words lent, the words as they are left and the
-- answers.
-- "Then answer, place, rows .. are the same": the answers, with all their numbers (02, Req 06: the padding too), and every word of every row; lent as many
-- words, all words.
abbrev pub LoadsAlike : (columns : Bool) (enums f g : List ℕ) (n m : ℕ) (left right : List ℕ) → Two Loading → Type 0
LoadsAlike columns enums f g n m left right r =
    room_of n ≡ room_of m → SameButTexts enums (room_of n) f g
    → (r.first ≡ r.second) × SameRows (grid_of n columns) (grid_of m columns) left right × (n ≡ m → left ≡ right)

-- For two files that are rewritten: the numbers of words and of output bytes lent besides. "the rewritten length [is] the same", and so is every refusal, 21
-- with the bytes needed among them.
abbrev pub RewritesAlike : (enums f g : List ℕ) (n m out other : ℕ) → Two (Result ℕ Refusal) → Type 0
RewritesAlike enums f g n m out other r = room_of n ≡ room_of m → SameButTexts enums (room_of n) f g → out ≡ other → r.first ≡ r.second

-- For two files that an asset builder loads with no enum types listed: the same number (01, "Looking up").
abbrev pub NumbersAlike : (f g : List ℕ) → Two ℕ → Type 0
NumbersAlike f g r = SameButTexts [] 1024 f g → r.first ≡ r.second

-- all lookups of a row in a table of a shape
abbrev pub lookups_of : (g : Grid) (file words : List ℕ) (row : ℕ) → Lookups
lookups_of g file words row =
    record { part = part_of g file words row; text = text_of g file words row; signed = signed_of g file words row; time = time_of g file words row; next = next_of g words row }

abbrev pub LookupsAre : (columns : Bool) (enums file : List ℕ) (n row : ℕ) → Lookups → Type 0
LookupsAre columns enums file n row r = r ≡ lookups_of (grid_of n columns) file (table_in (shape_of columns) (load_under enums file n) n) row

-- a byte of a part is the same in both files, or stands in a text that the part encloses
abbrev pub PartByte : (enums : List ℕ) (room : ℕ) (f g : List ℕ) (first size i : ℕ) → Type 0
PartByte enums room f g first size i =
    (get_or f i 0 ≡ get_or g i 0) ⊎ ((t : InText (Read enums room) f g i) × (first ≤ t.span.0) × (t.span.0 + t.span.1 ≤ first + size))

-- For a row that is looked up in both files, in tables by rows or in columns: the same lookups, and "each other row's part has the same bytes except where it
-- encloses such a text"
abbrev pub LookupsAlike : (enums f g : List ℕ) (n m : ℕ) → Two Lookups → Type 0
LookupsAlike enums f g n m r =
    room_of n ≡ room_of m → SameButTexts enums (room_of n) f g
    → (r.first ≡ r.second)
    × ((first size : ℕ) → r.first.part ≡ Ok (span first size) → (i : ℕ) → first ≤ i → i < first + size → PartByte enums (room_of n) f g first size i)

-- For a file that is loaded, by rows or in columns: no String value is left out (title, element, key, value, boxed, bone and mesh names, tags).
-- A row of kind 13 has a text that the walk reads, which ends where the row's part ends.
abbrev pub EveryString : (columns : Bool) (enums file : List ℕ) (n : ℕ) (left : List ℕ) → Type 0
EveryString columns enums file n left =
    let word : ℕ → ℕ → ℕ = λ i j. get_or left (cell_of (grid_of n columns) i j) 0 in
    (i : ℕ) → i < room_of n → word i 0 ≡ 13 → (x : Span) × Read enums (room_of n) file x × (word i 1 ≤ x.0) × (x.0 + x.1 ≡ word i 1 + word i 2)

-- What the contracts of loading state. Assumes nothing.
use Rattle.std.specs.Prelude.{◌≡◌, List, ℕ, ◌*◌, ◌≤◌, ◌+◌, length}
use Rattle.layout.specs.Target.{Target}
use Rattle.layout.specs.EnumList.{EnumEntry}
use Rattle.layout.specs.Rows.{width}
use Rattle.reading.specs.Answer.{bind}
use Rattle.reading.specs.Walk.{Taken}
use Rattle.reading.specs.File.{finished, objects_at, file_at}
use Rattle.readers.specs.Judged.{judged_name}
use Rattle.table.specs.declared.Grid.{Grid}
use Rattle.table.specs.Word.{in_word}
use Rattle.readers.specs.declared.Readers.{Readers}
use Rattle.readers.specs.Listed.{Listed}
use Rattle.resources.specs.Settled.{Drafted}
use Rattle.load.specs.Under.{file_under}
use Rattle.load.specs.Loads.{Loading, Total, file_total, Loads, behind_header}
use Rattle.layout.specs.Rows.{Row}
use Rattle.reading.specs.Drafts.{bare}
use Rattle.places.specs.Padding.{rows_padding}

-- a file whose rows stand in the words as drafts is loaded as far as its end says, with this padding
abbrev pub Finishes : Grid → (file : List ℕ) (readers shared padding next used : ℕ) → (entry exit : List ℕ) → Loading → Type 0
Finishes g file readers shared padding next used entry exit r =
    (total : Total) (platform flags : ℕ) (names : List (List ℕ)) (a : Taken) (w : List ℕ) → Drafted g entry used a.1 w → padding ≡ total readers (bare a.1)
    → Loads g total (finished file platform flags names readers shared a next) entry exit r

-- the objects of a file with this reader list are loaded, behind numbers of this padding
abbrev pub ObjectsLoad : Grid → (file codes : List ℕ) → Readers → (shared padding at : ℕ) → (entry exit : List ℕ) → Loading → Type 0
ObjectsLoad g file codes rd shared padding at entry exit r =
    (total : Total) (platform flags : ℕ) (names : List (List ℕ)) (readers : List Target) → Listed file codes rd readers
    → ((rows : List Row) → in_word (padding + rows_padding file rows) ≡ total (length readers) rows)
    → Loads g total (bind (objects_at file g.room readers shared at) (λ a e. finished file platform flags names (length readers) shared a e)) entry exit r

-- where the header ends, in a file of 01's size; the words have so many rows
pub record Behind (file words : List ℕ) (g : Grid) (at : ℕ) : Type 0 where
  pub short : length file ≤ 16777216
  pub inside : at ≤ length file
  pub long : width * g.room ≤ length words
  pub ten : at ≡ 10

-- what stands behind the header is loaded, under a list of enum types
abbrev pub ListsLoad : Grid → List EnumEntry → (file : List ℕ) (at : ℕ) → (entry exit : List ℕ) → Loading → Type 0
ListsLoad g es file at entry exit r = (platform flags : ℕ) → Loads g (file_total file) (behind_header es file g.room platform flags at) entry exit r

-- the file is loaded, under a list of enum types
abbrev pub FileLoads : Grid → List EnumEntry → (file entry exit : List ℕ) → Loading → Type 0
FileLoads g es file entry exit r = Loads g (file_total file) (file_at (judged_name es) file g.room) entry exit r

-- the same under a lent list of enum types, which may be refused
abbrev pub UnderLoads : Grid → (enums file entry exit : List ℕ) → Loading → Type 0
UnderLoads g enums file entry exit r = Loads g (file_total file) (file_under enums file g.room) entry exit r

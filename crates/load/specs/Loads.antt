-- What loading a file answers in code, and what it leaves in the words (01, "The row table"). Assumes nothing.
use Rattle.std.specs.Prelude.{◌≡◌, List, ℕ, length, Result, Ok, Err}
use Rattle.answers.specs.declared.Refusal.{Refusal}
use Rattle.answers.specs.Refusals.{refusal as broken}
use Rattle.table.specs.declared.Grid.{Grid}
use Rattle.table.specs.Word.{in_word}
use Rattle.reading.specs.Answer.{Answer, refused, read, bind}
use Rattle.reading.specs.File as File
use Rattle.reading.specs.File.{Loaded as FileLoaded, refusal, accepted, lists_at, objects_at, finished}
use Rattle.layout.specs.EnumList.{EnumEntry}
use Rattle.layout.specs.Rows.{Row}
use Rattle.layout.specs.Table.{words_with, shape_of}
use Rattle.places.specs.Padding.{file_padding}
use Rattle.readers.specs.Judged.{judged_name}
use Rattle.reading.specs.Drafts.{bare}
pub use Rattle.load.specs.Written.{Loading, loaded}

-- 01's answer in code: a refusal's number and place, or the number of rows, the number of readers and the shared count, and (02, Req 06) "the file's total": how many bytes its seven-bit numbers have beyond their shortest forms
abbrev pub answer_of : (file : List ℕ) → File.Load → Loading
answer_of file (refusal number place) = Err (broken number place)
answer_of file (accepted rows readers shared) = Ok (loaded (length rows) readers shared (file_padding file readers rows))

-- a padding, by the number of readers and the rows
abbrev pub Total : Type 0
Total = (readers : ℕ) → List Row → ℕ

-- that of a file, as a word holds it
abbrev pub file_total : (file : List ℕ) → Total
file_total file readers rows = in_word (file_padding file readers rows)

-- after success the rows stand in the words, with zeros elsewhere; after a refusal the words may hold anything
abbrev pub Loads : Grid → Total → Answer FileLoaded → (entry exit : List ℕ) → Loading → Type 0
Loads g total (refused n p) entry exit r = r ≡ Err (broken n p)
Loads g total (read a e) entry exit r = (r ≡ Ok (loaded (length a.rows) a.readers a.shared (total a.readers (bare a.rows)))) × (exit ≡ words_with (shape_of g.columns) g.room (bare a.rows) (length entry))

-- what stands behind the header, under a list of enum types
unfoldable pub behind_header : List EnumEntry → (file : List ℕ) (room platform flags at : ℕ) → Answer FileLoaded
behind_header es file room platform flags at =
    bind (lists_at (judged_name es) file at) (λ l first. bind (objects_at file room l.1 l.2 first) (λ a e. finished file platform flags l.0 (length l.1) l.2 a e))

-- How a value ends. Assumes nothing.
use Rattle.std.specs.Prelude.{Ok, Err, Bool, true, cond, List, ℕ, ◌-◌, ◌≤◌, ◌<◌, ◌^◌, eqb}
use Rattle.fonts.specs.FontWords.{font_words}
use Rattle.table.specs.declared.Grid.{Grid}
use Rattle.table.specs.Put.{put_row}
use Rattle.walked.specs.declared.Head.{Head}
use Rattle.answers.specs.Refusals.{refusal}
use Rattle.walked.specs.Contract.{Walk, atop}
use Rattle.walked.specs.Leaf.{value_row}

-- only a font has a rule over its children
unfoldable pub keeps : Grid → (file words : List ℕ) (kind number : ℕ) → Bool
keeps g file words kind number = cond (eqb kind 33) (font_words g file words number) true

-- a refusal below is the value's; else its rule, then its row
abbrev pub close_answer : Grid → (file w : List ℕ) → Head → (kind at : ℕ) → Walk → Walk
close_answer g file w h kind at (Err e) = Err e
close_answer g file w h kind at (Ok r) = cond (keeps g file w kind h.row.0) (Ok (atop h.padding r)) (Err (refusal 22 at))

abbrev pub close_words : Grid → (file w : List ℕ) → Head → (kind children : ℕ) → Walk → List ℕ
close_words g file w h kind n (Err e) = w
close_words g file w h kind n (Ok r) = cond (keeps g file w kind h.row.0) (put_row g w h.row.0 (value_row h kind n (r.used - h.row.0) r.next)) w

-- the value's length fits a word
abbrev pub Closable : Head → Walk → Type 0
Closable h (Err e) = Unit {0}
Closable h (Ok r) = (h.first ≤ r.next) × (r.next < 2 ^ 32)

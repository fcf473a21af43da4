-- The readers that were read so far, and the padding of their names' lengths. Assumes nothing.
use Rattle.std.specs.Prelude.{Result, Ok, Err, ◌≡◌, List, [], ◌++◌, ℕ, ◌+◌, ◌-◌, ◌*◌, ◌<◌, ◌≤◌, length, take, drop, get_or}
use Rattle.layout.specs.Target.{Target, object}
use Rattle.layout.specs.EnumList.{EnumEntry}
use Rattle.targets.specs.Code.{prelude_size, code_size, Stands}
use Rattle.reading.specs.Answer.{Answer, refused, read, bind}
use Rattle.reading.specs.File.{readers_at}
use Rattle.places.specs.Places.{entries_places, entries_end}
use Rattle.places.specs.Padding.{padding}
use Rattle.answers.specs.declared.Refusal.{Refusal}
use Rattle.readers.specs.declared.Ended.{Ended}
use Rattle.readers.specs.Judged.{judged_name}
use Rattle.readers.specs.Left.{Steps}

-- a reader in the arrays: its codes stand at `target` and end before `used`, and its name stands in the file at `start`
pub record Entered (file codes : List ℕ) (used target start : ℕ) (name : List ℕ) (t : Target) : Type 0 where
  pub stands : Stands file codes target t
  pub ends : target + code_size t ≤ used
  pub there : take (length name) (drop start file) ≡ name

-- the answer of the readers behind those that were read
abbrev pub after : (names : List (List ℕ)) (readers : List Target) → Answer (List (List ℕ) × List Target) → Answer (List (List ℕ) × List Target)
after names readers x = bind x (λ l e. read (names ++ l.0, readers ++ l.1) e)

-- i of n readers were read: the others are next, at `next`, and their codes from `used` on
pub record Reached (es : List EnumEntry) (file codes codes' targets starts : List ℕ) (n at i used next : ℕ) : Type 0 where
  pub names : List (List ℕ)
  pub readers : List Target
  pub few : i ≤ n
  pub names_are : length names ≡ i
  pub readers_are : length readers ≡ i
  pub answer : readers_at (judged_name es) file n at ≡ after names readers (readers_at (judged_name es) file (n - i) next)
  pub room : (prelude_size ≤ used) × (used ≤ prelude_size + 93 * i)
  pub kept : take prelude_size codes' ≡ take prelude_size codes
  pub each : (j : ℕ) → j < i → Entered file codes' used (get_or targets j 0) (get_or starts j 0) (get_or names j []) (get_or readers j object)

-- i of n readers, the first of which stands at `at`, were passed: the others stand from `next` on, and the lengths of the names passed have the padding `sum`;
-- a reader has at most 5 bytes of a length, 1,024 of a name and 4 of a version
pub record Passed (file : List ℕ) (n at i next sum : ℕ) : Type 0 where
  pub ends : entries_end file (n - i) next ≡ entries_end file n at
  pub adds : sum + padding file (entries_places file (n - i) next) ≡ padding file (entries_places file n at)
  pub few : sum ≤ 4 * i
  pub near : next ≤ at + 1033 * i

-- i of n readers were read and passed, and the arrays have kept their sizes
pub record Underway (es : List EnumEntry) (file codes codes' targets starts : List ℕ) (n at i used next sum : ℕ) : Type 0 where
  pub reached : Reached es file codes codes' targets starts n at i used next
  pub passed : Passed file n at i next sum
  pub codes_size : length codes' ≡ length codes
  pub targets_size : length targets ≡ 64
  pub starts_size : length starts ≡ 64

-- what the code answers of n readers
abbrev pub EndsAs : (es : List EnumEntry) (file codes codes' targets starts : List ℕ) (n at : ℕ) → Result Ended Refusal → Type 0
EndsAs es file codes codes' targets starts n at (Err e) = readers_at (judged_name es) file n at ≡ refused e.number e.place
EndsAs es file codes codes' targets starts n at (Ok r) = (used : ℕ) × Underway es file codes codes' targets starts n at n used r.next r.padding

abbrev pub Ends : (es : List EnumEntry) (file codes : List ℕ) (n at : ℕ) → Steps → Type 0
Ends es file codes n at o = EndsAs es file codes o.1.codes o.1.targets o.1.starts n at o.0

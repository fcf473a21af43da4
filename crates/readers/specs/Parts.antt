-- The parts of reading a reader list, as the code reads them one by one. Assumes nothing.
use Rattle.std.specs.Prelude.{Result, Ok, Err, ◌≡◌, List, ℕ, ◌+◌, ◌*◌, ◌≤◌, leb, eqb, length, take, drop}
use Rattle.std.proofs.lemmas.List.Edits.{sets}
use Rattle.layout.specs.Target.{Target}
use Rattle.layout.specs.EnumList.{EnumEntry}
use Rattle.targets.specs.Code.{code_size, Stands}
use Rattle.reading.specs.Answer.{Answer, refused, read, bind, check}
use Rattle.reading.specs.Reads.{some}
use Rattle.reading.specs.Seven.{seven_at}
use Rattle.reading.specs.Little.{little_at}
use Rattle.reading.specs.File.{judge}
use Rattle.answers.specs.declared.Refusal.{Refusal}
use Rattle.answers.specs.Refusals.{refusal}
use Rattle.readers.specs.declared.Reader.{Reader}
use Rattle.readers.specs.Judged.{judged_name}

-- 01: a count above its most is 9, at the count
unfoldable pub up_to : (most : ℕ) → List ℕ → ℕ → Answer ℕ
up_to most file at = bind (seven_at file at) (λ n e. check (leb n most) 9 at (read n e))

-- a reader's version; 01: 12 unless it is 0, at the version
unfoldable pub version_at : List ℕ → ℕ → Answer ℕ
version_at file at = bind (little_at file 4 at at) (λ v next. check (eqb v 0) 12 at (read v next))

-- a reader whose name starts at `first` and whose codes end before `end`, and the next place
abbrev pub reader : (first end next : ℕ) → Reader
reader first end next = record { name = first; end = end; next = next }

-- a reader whose name starts at `first` and whose codes end before `end`, by its version
abbrev pub end_of : (first end : ℕ) → Answer ℕ → Result Reader Refusal
end_of first end (refused n p) = Err (refusal n p)
end_of first end (read v next) = Ok (reader first end next)

-- a reader of the target t, whose name was read
unfoldable pub versioned : List ℕ → List ℕ → Target → ℕ → Answer (List ℕ × Target)
versioned file name t version = bind (little_at file 4 version version) (λ v next. check (eqb v 0) 12 version (read (name, t) next))

-- a reader whose name has n bytes from `first` on, behind the count at `at`
unfoldable pub named_at : List EnumEntry → List ℕ → (n at first : ℕ) → Answer (List ℕ × Target)
named_at es file n at first = bind (some file n at first) (λ name end. bind (judge (judged_name es first name) end) (λ t version. versioned file name t version))

-- a file of 01's size, and room for the codes of one name behind those that are used
abbrev pub Ready : (file : List ℕ) (used : ℕ) (c : List ℕ) → Type 0
Ready file used c = (length file ≤ 16777216) × (used ≤ 16777216) × (used + 187 ≤ length c)

-- a reader at `at` was read: its name stands at `first`, and the codes of its target from `used` to `end`
pub record Taken (x : Answer (List ℕ × Target)) (file c c' : List ℕ) (used at first end next : ℕ) : Type 0 where
  pub name : List ℕ
  pub t : Target
  pub words : List ℕ
  pub answer : x ≡ read (name, t) next
  pub there : take (length name) (drop first file) ≡ name
  pub near : first ≤ at + 5
  pub writes : c' ≡ sets c used words
  pub ends : end ≡ used + code_size t
  pub few : 11 * code_size t ≤ 1024
  pub stands : Stands file c' used t

-- what the code answers of a reader that reading answers so
abbrev pub Takes : (x : Answer (List ℕ × Target)) (file c c' : List ℕ) (used at : ℕ) → Result Reader Refusal → Type 0
Takes x file c c' used at (Err e) = x ≡ refused e.number e.place
Takes x file c c' used at (Ok r) = Taken x file c c' used at r.name r.end r.next

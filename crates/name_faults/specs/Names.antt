-- What is demanded of 33 to 38 and 11 (02, Req 04), which is the contract of `load_named`. No reading is in it. Assumes nothing.
use Rattle.std.specs.Prelude.{Err, ◌≡◌, List, [], ◌∷◌, ◌++◌, ℕ, ◌+◌, ◌<◌, ◌≤◌, length, drop}
use Rattle.layout.specs.Number.{Seven}
use Rattle.layout.specs.Target.{Target}
use Rattle.layout.specs.Name.{Name, text, Formed}
use Rattle.layout.specs.File.{Entries}
use Rattle.layout.specs.EnumList.{EnumEntry, write_enums, Enums}
use Rattle.layout.specs.Named.{unknown, reader_of}
use Rattle.layout.specs.Fault.{Fault}
use Rattle.layout.specs.Complaint.{reader_faults}
use Rattle.answers.specs.Refusals.{refusal}
use Rattle.load.specs.Written.{Loading}

-- the first reader whose name is not lawful under a list of enum types: of the name and of the place of its first byte P holds
pub record FirstName (es : List EnumEntry) (file : List ℕ) (P : (name : List ℕ) (first : ℕ) → Type 0) : Type 0 where
  -- the file from byte 10 on is a count, the entries of the readers before, a number, a name and a rest
  pub count : List ℕ
  pub before : List ℕ
  pub number : List ℕ
  pub name : List ℕ
  pub rest : List ℕ
  pub parts : drop 10 file ≡ count ++ (before ++ (number ++ (name ++ rest)))
  -- 01: "reader count (0 to 64)"
  pub readers : ℕ
  pub counted : Seven readers count
  pub not_many : readers ≤ 64
  -- the readers before are lawful, with version 0, and fewer than the count
  pub names : List (List ℕ)
  pub targets : List Target
  pub listed : Entries es names targets before
  pub fewer : length names < readers
  -- 01: "a name (7-bit length 1 to 1,024, then bytes)"
  pub numbered : Seven (length name) number
  pub not_empty : 1 ≤ length name
  pub not_long : length name ≤ 1024
  pub holds : P name (10 + length count + length before + length number)

-- no place of a list is before this one
unfoldable pub From : (place : ℕ) → List ℕ → Type 0
From place [] = Unit {0}
From place (p ∷ ps) = (place ≤ p) × From place ps

-- 02: "11 is likewise placed at the leftmost head it complains of": of a name whose first byte is at a place
pub record Complained (es : List EnumEntry) (name : List ℕ) (first place : ℕ) : Type 0 where
  -- the name is well formed, and no reader's
  pub n : Name
  pub formed : Formed 8 n
  pub written : name ≡ text n
  pub no_reader : reader_of es n ≡ unknown
  -- a head that is complained of stands at the place, and none before it
  pub others : List ℕ
  pub heads : reader_faults es first n ≡ place ∷ others
  pub leftmost : From place others

-- under some lawful list that was lent
abbrev pub Under : (enums : List ℕ) → (List EnumEntry → Type 0) → Type 0
Under enums P = (es : List EnumEntry) × Enums es × (enums ≡ write_enums es) × P es

-- For the lent list of enum types, a file and the answer of a load.
pub record Names (enums file : List ℕ) (r : Loading) : Type 0 where
  -- 33 to 38: the first reader whose name is not lawful has this fault, and the place is the name's first byte plus the fault's place in the name
  pub broken : (number place : ℕ) → r ≡ Err (refusal number place) → 33 ≤ number → number ≤ 38
      → Under enums (λ es. FirstName es file (λ name first. (i : ℕ) × (place ≡ first + i) × Fault name number i))
  -- 11: that name is well formed, and the place is the leftmost head that is complained of
  pub unlisted : (place : ℕ) → r ≡ Err (refusal 11 place) → Under enums (λ es. FirstName es file (λ name first. Complained es name first place))

-- What a value begins with, and the walk that it is. Assumes nothing.
use Rattle.std.specs.Prelude.{◌≡◌, Result, Ok, Err, Option, None, Some, Bool, true, false, List, [], ◌∷◌, ◌⊎◌, ℕ, suc, ◌+◌, ◌-◌, ◌%◌, ◌≤◌, ◌<◌, length, get_or}
use Rattle.layout.specs.Target.{Target}
use Rattle.layout.specs.Tree.{none, tree}
use Rattle.layout.specs.Slot as L
use Rattle.layout.specs.Slot.{Plan}
use Rattle.layout.specs.Rows.{row}
use Rattle.reading.specs.Answer.{refused}
use Rattle.reading.specs.Seven.{seven_at}
use Rattle.numbers.specs.Padded.{pad_of}
use Rattle.places.specs.Padding.{id_end, id_pad}
use Rattle.reading.specs.Rules.{missing, found, reader, serves}
use Rattle.reading.specs.Walk.{Outcome, done, sequence, raw_at, value_at, walk}
use Rattle.targets.specs.Code.{Stands}
use Rattle.readers.specs.declared.Readers.{Readers}
use Rattle.leaves.specs.Plain.{plain_slot, Lawful}
use Rattle.leaves.specs.Like.{Like}
use Rattle.answers.specs.declared.Refusal.{Refusal}
use Rattle.answers.specs.declared.Rule.{Rule}
use Rattle.answers.specs.declared.Rule.TheVariants.{NoReader, NotDeclared}
use Rattle.answers.specs.Refusals.{refusal}
use Rattle.objects.specs.declared.start.Started.{Started}
use Rattle.objects.specs.declared.start.Started.TheVariants.{Raw, Plain}
use Rattle.objects.specs.declared.start.Started.TheVariants.{Null as NullValue}
use Rattle.reading.specs.Drafts.{drafted}

-- 01: "A type id counts readers": the position that it names in a list of at most 64
abbrev pub position_in : (id : ℕ) → ℕ
position_in id = (id + 63) % 64

-- the same by the first byte of a type id alone, whose low six bits are those of the type id
abbrev pub position_at : (file : List ℕ) (at : ℕ) → ℕ
position_at file at = position_in (get_or file at 0)

-- what a type id comes to: the place of a reader's type, none for null, or a rule that is broken
abbrev pub Identified : Type 0
Identified = Result (Option ℕ) Rule

-- what a value begins with, or a refusal
abbrev pub Starting : Type 0
Starting = Result Started Refusal

abbrev pub refusing : (number place : ℕ) → Starting
refusing number place = Err (refusal number place)

-- what is known of a reader list: how many readers it has, and the place of the type at a position
pub record Has (rd : Readers) (count i target : ℕ) : Type 0 where
  pub counts : rd.count ≡ count
  pub at : get_or rd.targets i 0 ≡ target

-- what a type id comes to, for an object declared as d
pub record ReadBy (file codes : List ℕ) (readers : List Target) (d : Target) (id place : ℕ) : Type 0 where
  pub type : Target
  pub at : Stands file codes place type
  pub named : reader readers id ≡ found type
  pub serving : serves d type ≡ true

abbrev pub Identifies : (file codes : List ℕ) → List Target → Target → ℕ → Identified → Type 0
Identifies file codes readers d id (Ok None) = id ≡ 0
Identifies file codes readers d id (Err r) = ((r ≡ NoReader) × (0 < id) × (reader readers id ≡ missing)) ⊎ ((r ≡ NotDeclared) × (0 < id) × ((u : Target) × (reader readers id ≡ found u) × (serves d u ≡ false)))
Identifies file codes readers d id (Ok (Some place)) = (0 < id) × ReadBy file codes readers d id place

-- 14 unless the reader serves
abbrev pub by : Bool → (place : ℕ) → Identified
by true place = Ok (Some place)
by false place = Err NotDeclared

-- the row and the tree of a null
abbrev pub nulled : (at next used parent : ℕ) → Outcome
nulled at next used parent = done next (suc used) (drafted (row 0 at (next - at) 0 parent 0 1) ∷ []) (tree 0 0 [] none none)

-- a value's id, where it ends and its padding
pub record Ided (file : List ℕ) (first from id padding : ℕ) : Type 0 where
  pub behind : from ≡ id_end file first id
  pub pads : padding ≡ id_pad file first id

-- what stands after an object's type id
pub record Invokes (file codes : List ℕ) (readers : List Target) (x : L.Slot) (at place from id padding : ℕ) : Type 0 where
  pub type : Target
  pub stands : Stands file codes place type
  pub ided : Ided file at from id padding
  pub ahead : at ≤ from
  pub inside : from ≤ length file
  pub is : (shared room : ℕ) (below : Plan → ℕ → ℕ → Outcome) (used parent : ℕ) → value_at file readers shared room below x at used parent ≡ raw_at file readers shared room below type at from used parent id

pub record IsNull (file : List ℕ) (readers : List Target) (x : L.Slot) (at next padding : ℕ) : Type 0 where
  pub pads : padding ≡ pad_of (seven_at file at) at
  pub ahead : at ≤ next
  pub inside : next ≤ length file
  pub is : (shared room : ℕ) (below : Plan → ℕ → ℕ → Outcome) (used parent : ℕ) → value_at file readers shared room below x at used parent ≡ nulled at next used parent

abbrev pub ObjectStarts : (file codes : List ℕ) → List Target → L.Slot → (at : ℕ) → Starting → Type 0
ObjectStarts file codes readers x at (Err e) = (shared room : ℕ) (below : Plan → ℕ → ℕ → Outcome) (used parent : ℕ) → value_at file readers shared room below x at used parent ≡ refused e.number e.place
ObjectStarts file codes readers x at (Ok (Plain p)) = ⊥
ObjectStarts file codes readers x at (Ok (NullValue next padding)) = IsNull file readers x at next padding
ObjectStarts file codes readers x at (Ok (Raw place from id padding)) = Invokes file codes readers x at place from id.0 padding

-- what the values below stand for, by the depth that is left to them
abbrev pub under : (file : List ℕ) → List Target → (shared room below used : ℕ) → Plan → ℕ → ℕ → Outcome
under file readers shared room below used = λ plan a u. sequence (λ y b v. walk file readers shared room below y b v (suc used)) plan a u

-- what a value begins with, where it may have a row
pub record Begins (file codes : List ℕ) (readers : List Target) (room depth : ℕ) (x : L.Slot) (at used place from id padding : ℕ) : Type 0 where
  pub type : Target
  pub stands : Stands file codes place type
  pub ided : Ided file at from id padding
  pub ahead : at ≤ from
  pub inside : from ≤ length file
  pub free : used < room
  pub deep : 0 < depth
  pub is : (shared below parent : ℕ) → depth ≡ suc below → walk file readers shared room depth x at used parent ≡ raw_at file readers shared room (under file readers shared room below used) type at from used parent id

pub record BeginsNull (file : List ℕ) (readers : List Target) (room depth : ℕ) (x : L.Slot) (at used next padding : ℕ) : Type 0 where
  pub pads : padding ≡ pad_of (seven_at file at) at
  pub ahead : at ≤ next
  pub inside : next ≤ length file
  pub free : used < room
  pub is : (shared parent : ℕ) → walk file readers shared room depth x at used parent ≡ nulled at next used parent

abbrev pub Starts : (file codes : List ℕ) → List Target → (room depth : ℕ) → L.Slot → (at used : ℕ) → Starting → Type 0
Starts file codes readers room depth x at used (Err e) = (shared parent : ℕ) → walk file readers shared room depth x at used parent ≡ refused e.number e.place
Starts file codes readers room depth x at used (Ok (Plain p)) = Like x (plain_slot p) × Lawful p
Starts file codes readers room depth x at used (Ok (NullValue next padding)) = BeginsNull file readers room depth x at used next padding
Starts file codes readers room depth x at used (Ok (Raw place from id padding)) = Begins file codes readers room depth x at used place from id.0 padding

-- What is known where a walk begins. Assumes nothing.
use Rattle.std.specs.Prelude.{List, ℕ, ◌*◌, ◌≤◌, ◌<◌, ◌^◌, length}
use Rattle.layout.specs.Target.{Target}
use Rattle.layout.specs.Slot as L
use Rattle.layout.specs.Rows.{width}
use Rattle.readers.specs.declared.Readers.{Readers}
use Rattle.readers.specs.Listed.{Listed}
use Rattle.table.specs.declared.Grid.{Grid}
use Rattle.walked.specs.declared.Head.{Head}
use Rattle.heads.specs.declared.slot.Slot.{Slot}
use Rattle.heads.specs.declared.nest.Nest.{Nest}
use Rattle.leaves.specs.Plain.{Begin}
use Rattle.heads.specs.Placed.{SlotIs}
use Rattle.heads.specs.Plans.{Prelude, NestIs}
use Rattle.objects.specs.Beginnings.{Has, Ided, position_at}

-- the codes hold the types of some readers and those that fonts, pages and meshes declare
pub record Known (file codes : List ℕ) (rd : Readers) : Type 0 where
  pub readers : List Target
  pub listed : Listed file codes rd readers
  pub prelude : Prelude codes

-- the codes hold the types of a reader list with so many readers, and the type that a slot's type id names is at a place
pub record KnownTarget (file codes : List ℕ) (slot : Slot) (at count target : ℕ) : Type 0 where
  pub rd : Readers
  pub readers : List Target
  pub has : Has rd count (position_at file at) target
  pub listed : Listed file codes rd readers

pub record KnownSlot (file codes : List ℕ) (slot : Slot) : Type 0 where
  pub x : L.Slot
  pub is : SlotIs file codes slot x

pub record KnownNest (file codes : List ℕ) (nest : Nest) : Type 0 where
  pub plan : L.Plan
  pub is : NestIs file codes nest plan

-- a value in a slot may begin, where a reader list with so many readers has the type that its type id names
abbrev pub KnownValue : (file codes words : List ℕ) → Grid → Slot → (at used count target : ℕ) → Type 0
KnownValue file codes words g slot at used count target = Begin file words g at used × KnownTarget file codes slot at count target × KnownSlot file codes slot

-- a raw value has its row and stands behind its id, and all numbers fit
pub record Ready (file words : List ℕ) (g : Grid) (h : Head) (at : ℕ) : Type 0 where
  pub long : width * g.room ≤ length words
  pub few : g.room < 2 ^ 32
  pub free : h.row.0 < g.room
  pub begun : h.first ≤ at
  pub place : at ≤ length file
  pub short : length file < 2 ^ 32
  pub ided : Ided file h.first at h.detail h.padding

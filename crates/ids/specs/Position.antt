-- Where an id points. Assumes nothing.
use Rattle.std.specs.Prelude.{ℕ, zero, suc, Option, Some, None}
use Rattle.ids.specs.declared.TypeId.{TypeId}

-- 01, "Seven-bit numbers", of type ids and resource ids: "both are one more than a position, 0 means null"
abbrev pub position_of : ℕ → Option ℕ
position_of zero = None
position_of (suc n) = Some n

-- a number as a type id
abbrev pub type_id : ℕ → TypeId
type_id n = record { 0 = n }

-- How an answer of a lookup in a pack is written, in the code's own types. Assumes nothing.
use Rattle.std.specs.Prelude.{ℕ}
use Rattle.pack_lookup.specs.declared.Part.{Part}

-- a part that starts at a place and has so many bytes
abbrev pub part : (first count : ℕ) → Part
part first count = record { first = first; count = count }

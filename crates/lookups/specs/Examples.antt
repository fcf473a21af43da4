-- The lookups' definitions, computed for small files and rows. Assumes nothing.
use Rattle.std.specs.Prelude.{◌≡◌, refl, [], ◌∷◌, pos, negsuc, Ok, Err}
use Rattle.layout.specs.Number.{value_of}
use Rattle.layout.specs.Rows.{width}
use Rattle.layout.specs.Table.{room_of, cell}
use Rattle.table.specs.declared.Grid.{Grid}
use Rattle.table.specs.Grids.{rows_grid}
use Rattle.reading.specs.Answer.{bind, check}
use Rattle.reading.specs.Seven.{group, groups, seven_at}
use Rattle.reading.specs.Reads.{some}
use Rattle.reading.specs.Little.{little_at}
use Rattle.answers.specs.Refusals.{refusal}
use Rattle.ticks.specs.Split.{split_of}
use Rattle.lookups.specs.Parts.{span, or_refused, kind_of, first_of, length_of, part_of, in_part, lookup, spanned}
use Rattle.lookups.specs.Texts.{count_at, behind, text_in, text_of}
use Rattle.lookups.specs.Signs.{twos, signed_from, last_bytes, signed_in, signed_of}
use Rattle.lookups.specs.Times.{as_time, time_of}

-- a table of one row
abbrev grid : Grid
grid = rows_grid width

-- a row behind the room, a row that runs past the file, and the whole file
pub parts : (part_of grid (1 ∷ 2 ∷ []) (13 ∷ 0 ∷ 2 ∷ 0 ∷ 0 ∷ 1 ∷ 1 ∷ []) 1 ≡ Err (refusal 23 1))
    × (part_of grid (1 ∷ 2 ∷ []) (13 ∷ 1 ∷ 2 ∷ 0 ∷ 0 ∷ 1 ∷ 1 ∷ []) 0 ≡ Err (refusal 23 0))
    × (part_of grid (1 ∷ 2 ∷ []) (13 ∷ 0 ∷ 2 ∷ 0 ∷ 0 ∷ 1 ∷ 1 ∷ []) 0 ≡ Ok (span 0 2))
unfolding part_of or_refused first_of length_of cell room_of
parts = (refl, refl, refl)

-- the text of 01's file B, then with its count padded (P4), then with another count
pub texts : (text_of grid (1 ∷ 2 ∷ 0x48 ∷ 0x69 ∷ []) (13 ∷ 0 ∷ 4 ∷ 0 ∷ 0 ∷ 1 ∷ 1 ∷ []) 0 ≡ Ok (span 2 2))
    × (text_of grid (1 ∷ 0x82 ∷ 0 ∷ 0x48 ∷ 0x69 ∷ []) (13 ∷ 0 ∷ 5 ∷ 0 ∷ 0 ∷ 1 ∷ 1 ∷ []) 0 ≡ Ok (span 3 2))
    × (text_of grid (1 ∷ 1 ∷ 0x48 ∷ 0x69 ∷ []) (13 ∷ 0 ∷ 4 ∷ 0 ∷ 0 ∷ 1 ∷ 1 ∷ []) 0 ≡ Err (refusal 24 0))
unfolding text_of lookup in_part text_in behind count_at part_of or_refused kind_of first_of length_of cell room_of seven_at groups group bind check
texts = (refl, refl, refl)

-- an SByte behind a type id, two Int16, and an Int16 of one byte
pub numbers : (signed_of grid (1 ∷ 0xFF ∷ []) (2 ∷ 0 ∷ 2 ∷ 0 ∷ 0 ∷ 1 ∷ 1 ∷ []) 0 ≡ Ok (negsuc 0))
    × (signed_of grid (0x00 ∷ 0x80 ∷ []) (3 ∷ 0 ∷ 2 ∷ 0 ∷ 1 ∷ 0 ∷ 1 ∷ []) 0 ≡ Ok (negsuc 32767))
    × (signed_of grid (0xFF ∷ 0x7F ∷ []) (3 ∷ 0 ∷ 2 ∷ 0 ∷ 1 ∷ 0 ∷ 1 ∷ []) 0 ≡ Ok (pos 32767))
    × (signed_of grid (0xFF ∷ []) (3 ∷ 0 ∷ 1 ∷ 0 ∷ 1 ∷ 0 ∷ 1 ∷ []) 0 ≡ Err (refusal 24 0))
unfolding signed_of lookup in_part signed_in last_bytes signed_from twos part_of or_refused kind_of first_of length_of cell room_of little_at some value_of bind check
numbers = (refl, refl, refl, refl)

-- the bytes of a part, of one that runs past the file, and of a text
pub bytes : (spanned (1 ∷ 2 ∷ 3 ∷ []) (part_of grid (1 ∷ 2 ∷ 3 ∷ []) (1 ∷ 1 ∷ 2 ∷ 0 ∷ 0 ∷ 0 ∷ 1 ∷ []) 0) ≡ 2 ∷ 3 ∷ [])
    × (spanned (1 ∷ 2 ∷ 3 ∷ []) (part_of grid (1 ∷ 2 ∷ 3 ∷ []) (1 ∷ 1 ∷ 3 ∷ 0 ∷ 0 ∷ 0 ∷ 1 ∷ []) 0) ≡ [])
    × (spanned (1 ∷ 2 ∷ 0x48 ∷ 0x69 ∷ []) (text_of grid (1 ∷ 2 ∷ 0x48 ∷ 0x69 ∷ []) (13 ∷ 0 ∷ 4 ∷ 0 ∷ 0 ∷ 1 ∷ 1 ∷ []) 0) ≡ 0x48 ∷ 0x69 ∷ [])
unfolding spanned text_of lookup in_part text_in behind count_at part_of or_refused kind_of first_of length_of cell room_of seven_at groups group bind check
bytes = (refl, refl, refl)

-- 01, P12: "ticks -1 are -1 s and 9,999,999"; the same bytes of an Int64; and a row of no bytes, whose kind is no time's either
pub times : (time_of grid (0xFF ∷ 0xFF ∷ 0xFF ∷ 0xFF ∷ 0xFF ∷ 0xFF ∷ 0xFF ∷ 0xFF ∷ []) (20 ∷ 0 ∷ 8 ∷ 0 ∷ 1 ∷ 0 ∷ 1 ∷ []) 0 ≡ Ok (record { seconds = negsuc 0; ticks = 9999999 }))
    × (time_of grid (0xFF ∷ 0xFF ∷ 0xFF ∷ 0xFF ∷ 0xFF ∷ 0xFF ∷ 0xFF ∷ 0xFF ∷ []) (7 ∷ 0 ∷ 8 ∷ 0 ∷ 1 ∷ 0 ∷ 1 ∷ []) 0 ≡ Err (refusal 24 0))
    × (time_of grid (0xFF ∷ []) (7 ∷ 0 ∷ 0 ∷ 0 ∷ 1 ∷ 0 ∷ 1 ∷ []) 0 ≡ Err (refusal 23 0))
unfolding time_of as_time split_of signed_of lookup in_part signed_in last_bytes signed_from twos part_of or_refused kind_of first_of length_of cell room_of little_at some value_of bind check
times = (refl, refl, refl)

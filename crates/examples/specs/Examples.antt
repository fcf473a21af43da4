-- 01, "Examples (P: to be proved)": P1 to P13 and the three of Char in their order, as one list under one statement, by computation of the definitions. Assumes nothing.
use Rattle.std.specs.Prelude.{◌≡◌, refl, List, [], ◌∷◌, ◌++◌, ℕ, ◌*◌, max, ℤ, negsuc, length, take, replicate}
use Rattle.layout.specs.Target.{kind_of, is_value}
use Rattle.layout.specs.Tree.{count, kind_at, children_at, told_of, told}
use Rattle.layout.specs.Slot.{each, slot_of, raw_or_object, pairs, leaves, font_slots, page_slots}
use Rattle.layout.specs.Number.{little, value_of}
use Rattle.layout.specs.Text.{ascii}
use Rattle.layout.specs.Image.{levels, level_bytes, pixel_bytes, block_bytes, digits}
use Rattle.layout.specs.Fixed.{sizes}
use Rattle.layout.specs.File.{shared_of, header, objects_plan}
use Rattle.layout.specs.Rows.{row, words as row_words, width, flat}
use Rattle.layout.specs.Name.{head_byte, tail_byte}
use Rattle.layout.specs.Kind.{lookup, alike, reader, readers, target as target_entry, targets}
use Rattle.layout.specs.Named.{fixed_kind, plain, nullable_of, wrapped, paired, type_of, enum_of, array_of, reader_of}
use Rattle.layout.specs.Table.{room_of}
use Rattle.layout.specs.Shortest.{fewest, shortest, numbered, id_bytes, body, short, short_entry, short_entries, short_lists, short_body, short_file}
use Rattle.reading.specs.Answer.{Answer, read, refused, bind, check, within, several}
use Rattle.reading.specs.Reads.{some, field}
use Rattle.reading.specs.Seven.{group, groups, seven_at}
use Rattle.reading.specs.Little.{little_at}
use Rattle.reading.specs.Rules.{decided, same, serves, invoked, reader as reader_of_lem}
use Rattle.reading.specs.Utf8.{utf8s, chars, char_size, follow, size, char_at, euro, surrogate, of_four}
use Rattle.reading.specs.Fixed.{rule, is_boolean, is_date_time, is_decimal, fixed_at}
use Rattle.reading.specs.Font.{font_ok, font_if, font_test}
use Rattle.reading.specs.Resource.{suit, suits}
use Rattle.reading.specs.Walk.{before, sequence, raw_at, by_reader, object_at, value_at, walk}
use Rattle.reading.specs.Heads.{head_at, fixed_head_at, whole as whole_value, text_at, count_at, image_at, leaf_at, always}
use Rattle.reading.specs.File.{is_platform, header_at, judge, root_kind, root_kinds, judged, reader_at, readers_at, lists_at, objects_at, finished, file_at, Load, refusal, accepted, to_load, table_of, table_in}
use Rattle.names.specs.Parse.{span, starts, tail_size, tail_of, closed, opening, on_only, on_second, on_first, after_head, headed, name_in, whole, name_of}
use Rattle.readers.specs.Judged.{typed_name, read_name, judged_name}
use Rattle.reading.specs.Output.{Rewritten, written, fitted, output_of}
use Rattle.shortest.specs.Rewrite.{by_load}
use Rattle.enums.specs.Judge.{enums_from, enums_at}
use Rattle.load.specs.Under.{under_list, file_under, load_under}
use Rattle.rewrite.specs.Whole.{rewrite_under}
use Rattle.ticks.specs.declared.Time.{Time}
use Rattle.ticks.specs.Split.{split_of}
use Rattle.ticks.specs.Laws.{p12}
use Rattle.images.specs.Laws.{p13}
use Rattle.builder.specs.Packed.{code, packed}
use Rattle.names.specs.Heading.{headings}
use Rattle.names.specs.Kind.{listed}

-- what an example gives, and what it says of it; no enum types are listed
pub data Example : Type 0 where
  -- a file and the number of words lent
  loads : (file : List ℕ) (words : ℕ) → Load → Example
  -- and the words as they are left
  leaves_words : (file : List ℕ) (words : ℕ) (left : List ℕ) → Example
  -- a file, and the 64-bit number that the asset builder gets
  tells : (file : List ℕ) → ℕ → Example
  -- a file, the number of words lent and the number of bytes lent for the output
  rewrites : (file : List ℕ) (words out : ℕ) → Rewritten → Example
  -- and the output as it is lent and as it is left
  leaves_output : (file : List ℕ) (words : ℕ) (out end : List ℕ) → Example
  -- the bytes of a seven-bit number, and of a character
  number : (bytes : List ℕ) → Answer ℕ → Example
  character : (bytes : List ℕ) → Answer ℕ → Example
  -- a time in ticks
  time : (ticks : ℤ) → Time → Example
  -- the sides of an image and the most levels, and the sizes of levels of a format
  levelled : (width height most : ℕ) → Example
  sized : (format width height n : ℕ) → List ℕ → Example

-- each example is what the definitions say
unfoldable pub Hold : List Example → Type 0
Hold [] = Unit {0}
Hold (loads file words answer ∷ rest) = (load_under [] file words ≡ answer) × Hold rest
Hold (leaves_words file words left ∷ rest) = (table_of (load_under [] file words) words ≡ left) × Hold rest
Hold (tells file answer ∷ rest) = (packed (load_under [] file (1024 * width)) ≡ answer) × Hold rest
Hold (rewrites file words out answer ∷ rest) = (rewrite_under [] file words out ≡ answer) × Hold rest
Hold (leaves_output file words out end ∷ rest) = (output_of (rewrite_under [] file words (length out)) out ≡ end) × Hold rest
Hold (number bytes answer ∷ rest) = (seven_at bytes 0 ≡ answer) × Hold rest
Hold (character bytes answer ∷ rest) = (char_at bytes 0 ≡ answer) × Hold rest
Hold (time ticks answer ∷ rest) = (split_of ticks ≡ answer) × Hold rest
Hold (levelled w h most ∷ rest) = (digits 32 (max w h) ≡ most) × Hold rest
Hold (sized format w h n answer ∷ rest) = (levels format w h n ≡ answer) × Hold rest

-- 01, file A: no readers, and null as the primary
unfoldable pub A : List ℕ
A = 0x58 ∷ 0x4E ∷ 0x42 ∷ 0x77 ∷ 5 ∷ 0 ∷ 0x0D ∷ 0 ∷ 0 ∷ 0 ∷ 0 ∷ 0 ∷ 0 ∷ []

-- a header with these flags and this length
unfoldable pub start : (flags n : ℕ) → List ℕ
start flags n = 0x58 ∷ 0x4E ∷ 0x42 ∷ 0x77 ∷ 5 ∷ flags ∷ n ∷ 0 ∷ 0 ∷ 0 ∷ []

-- one reader, of texts, no shared objects, and these bytes of a text, in a file of this length
unfoldable pub texted : (n : ℕ) → List ℕ → List ℕ
texted n text = start 0 n ++ 1 ∷ 0x2C ∷ (ascii "Microsoft.Xna.Framework.Content.StringReader" ++ (0 ∷ 0 ∷ 0 ∷ 0 ∷ 0 ∷ 1 ∷ text))

-- 01, file B, and B "with its text count as 82 00 and length 42 hex"
unfoldable pub B : List ℕ
B = texted 0x41 (2 ∷ 0x48 ∷ 0x69 ∷ [])

unfoldable pub padded_b : List ℕ
padded_b = texted 0x42 (0x82 ∷ 0 ∷ 0x48 ∷ 0x69 ∷ [])

unfoldable pub listed-examples : List Example
listed-examples =
    loads A 7 (accepted (row 0 12 1 0 0 0 1 ∷ []) 0 0)
    ∷ leaves_words A 8 (0 ∷ 12 ∷ 1 ∷ 0 ∷ 0 ∷ 0 ∷ 1 ∷ 0 ∷ [])
    ∷ tells A 1
    ∷ loads A 6 (refusal 19 12)
    ∷ leaves_words A 6 (0 ∷ 0 ∷ 0 ∷ 0 ∷ 0 ∷ 0 ∷ [])
    ∷ loads B 7168 (accepted (row 13 61 4 0 0 1 1 ∷ []) 1 0)
    ∷ leaves_words B 7 (13 ∷ 61 ∷ 4 ∷ 0 ∷ 0 ∷ 1 ∷ 1 ∷ [])
    ∷ loads padded_b 7 (accepted (row 13 61 5 0 0 1 1 ∷ []) 1 0)
    ∷ leaves_words padded_b 7 (13 ∷ 61 ∷ 5 ∷ 0 ∷ 0 ∷ 1 ∷ 1 ∷ [])
    ∷ rewrites padded_b 7 65 (written B)
    ∷ leaves_output padded_b 7 (replicate 67 0xAA) (B ++ (0xAA ∷ 0xAA ∷ []))
    ∷ loads (take 12 A) 7 (refusal 7 6)
    ∷ tells (take 12 A) 30064771078
    ∷ loads (take 9 A) 7 (refusal 1 0)
    ∷ loads (start 0x81 0x0D ++ (0 ∷ 0 ∷ 0 ∷ [])) 7 (refusal 5 5)
    ∷ loads (start 2 0x0D ++ (0 ∷ 0 ∷ 0 ∷ [])) 7 (refusal 6 5)
    ∷ loads (start 0 0x0D ++ (0 ∷ 0 ∷ 1 ∷ [])) 7 (refusal 13 12)
    ∷ loads (start 0 0x0D ++ (0 ∷ 1 ∷ 0 ∷ [])) 14 (refusal 1 13)
    ∷ loads (start 0 0x0E ++ (0 ∷ 0 ∷ 0 ∷ 0 ∷ [])) 7 (refusal 20 13)
    ∷ number (0x82 ∷ 0x01 ∷ []) (read 130 2)
    ∷ number (0xFF ∷ 0xFF ∷ 0xFF ∷ 0xFF ∷ 0x0F ∷ []) (read 4294967295 5)
    ∷ number (0xFF ∷ 0xFF ∷ 0xFF ∷ 0xFF ∷ 0x10 ∷ []) (refused 8 0)
    ∷ time (negsuc 0) (record { seconds = negsuc 0; ticks = 9999999 })
    ∷ time (negsuc 9223372036854775807) (record { seconds = negsuc 922337203685; ticks = 5224192 })
    ∷ levelled 5 3 3
    ∷ sized 0 5 3 3 (60 ∷ 8 ∷ 4 ∷ [])
    ∷ sized 4 5 3 3 (16 ∷ 8 ∷ 8 ∷ [])
    ∷ character (0xE2 ∷ 0x82 ∷ 0xAC ∷ []) (read 0x20AC 3)
    ∷ character (0xED ∷ 0xA0 ∷ 0x80 ∷ []) (refused 15 0)
    ∷ character (0xF0 ∷ 0x9F ∷ 0x98 ∷ 0x80 ∷ []) (refused 15 0)
    ∷ []

pub examples : Hold listed-examples
unfolding Hold listed-examples table_in flat row_words code packed output_of A B padded_b start texted rewrite_under load_under file_under under_list enums_at enums_from
    by_load fitted short_file short_body short_lists short_entries short_entry short body id_bytes numbered shortest fewest header follow size is_platform header_at
    judge root_kind root_kinds judged reader_at readers_at several lists_at objects_at finished file_at to_load room_of head_at fixed_head_at whole_value text_at count_at
    image_at leaf_at always told_of told before sequence raw_at by_reader object_at value_at walk suit suits font_ok font_if font_test rule is_boolean is_date_time is_decimal
    fixed_at utf8s chars char_size decided same serves invoked reader_of_lem value_of little_at group groups seven_at some field bind check within shared_of objects_plan
    sizes levels level_bytes pixel_bytes block_bytes digits ascii little each slot_of raw_or_object pairs leaves font_slots page_slots count kind_at children_at kind_of
    is_value head_byte tail_byte headings lookup alike listed reader readers target_entry targets span starts tail_size tail_of closed opening on_only on_second
    on_first after_head headed name_in whole name_of fixed_kind plain nullable_of wrapped paired type_of enum_of array_of reader_of typed_name read_name judged_name
examples = (refl, (refl, (refl, (refl, (refl, (refl, (refl, (refl, (refl, (refl, (refl, (refl, (refl, (refl, (refl, (refl, (refl, (refl, (refl, (refl, (refl, (refl, (p12.0, (p12.1, (p13.0, (p13.1, (p13.2, (euro, (surrogate, (of_four, tt))))))))))))))))))))))))))))))

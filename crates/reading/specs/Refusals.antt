-- What a refusal tells, for every file and every number of words: one of a load's numbers, and a place inside the file and within the limit on its length.
-- So a place fits 32 bits, as in the one number that an asset builder is told (01, "Looking up"). Assumes nothing.
use Rattle.std.specs.Prelude.{◌≡◌, Bool, cond, ◌⊎◌, eqb, ltb, leb, drop}
use Rattle.std.proofs.Math.Path.{refl, ap}
use Rattle.std.proofs.Common.{sym, inl, inr, arith, length-take-le}
use Rattle.std.proofs.Math.Bool.{true, false}
use mathlib.Core.List.{List, [], ◌∷◌, ◌++◌}
use Prim.Native.Nat.{ℕ, zero, suc, ◌+◌, ◌≤◌}
use Rattle.std.proofs.Math.ListN.{length, length-drop}
use borrow.Author.Tests.{leb-true, eqb-true}
use Rattle.laws.specs.Small.{differ}
use Rattle.layout.specs.Target.{Target, fixed, char, string, object, texture, texture_2d, sprite_font, page, mesh, enum, nullable, array, list, dictionary}
use Rattle.layout.specs.Slot.{Leaf, level, blob, numeric, Slot, raw, reference, leaf, object as an_object, Plan, stop, put}
use Rattle.layout.specs.File.{objects_plan}
use Rattle.layout.specs.Rows.{row}
use Rattle.layout.specs.Tree.{told_of}
use Rattle.layout.specs.Refusals.{LoadNumber}
use Rattle.layout.specs.Table.{room_of}
use Rattle.reading.specs.Answer.{Answer, refused, read, bind, check, several}
use Rattle.reading.specs.Reads.{some, field}
use Rattle.reading.specs.Seven.{group, groups, seven_at}
use Rattle.reading.specs.Little.{little_at}
use Rattle.reading.specs.Utf8.{size, char_of, char_at}
use Rattle.reading.specs.Fixed.{fixed_at}
use Rattle.reading.specs.Rules.{Found, missing, found, reader}
use Rattle.reading.specs.Heads.{own_at, whole, fixed_head_at, text_at, flag_at, count_at, image_at, leaf_at, head_at}
use Rattle.reading.specs.Walk.{Taken, Outcome, sequence, raw_at, by_reader, object_at, value_at, walk}
use Rattle.reading.specs.File.{header_at, Named, unknown, known, judge, judged, Loaded, objects_at, finished, reader_at, readers_at, lists_at, file_at, refusal, to_load, load_of}
use Rattle.reading.specs.Drafts.{Draft}

-- ---- what an answer tells

-- a refusal's number and place keep R, or a value and the next byte keep P
pub data Tells {A : Type 0} (R : ℕ → ℕ → Type 0) (P : A → ℕ → Type 0) : Answer A → Type 0 where
  of_refused : {n p : ℕ} → R n p → Tells R P (refused n p)
  of_read : {a : A} {e : ℕ} → P a e → Tells R P (read a e)

-- a refusal of such a number, at a place up to `most`
pub record Placed (most number place : ℕ) : Type 0 where
  pub number_is : LoadNumber number
  pub placed : place ≤ most

-- ---- the header and the lists

-- 01, "Reader names", and 02, Req 04: a name that is not read is refused with 11 or 33 to 38, placed within it or at its end
abbrev pub WithinName : (ℕ → List ℕ → Named) → Type 0
WithinName name_of = (first : ℕ) (name : List ℕ) (number place : ℕ) → name_of first name ≡ unknown number place
    → ((number ≡ 11) ⊎ ((33 ≤ number) × (number ≤ 38))) × (place ≤ first + length name)

-- The file count, and the whole pack. Assumes nothing.
use mathlib.Core.Path.{◌≡◌, ap, ◌∙◌}
use mathlib.Core.List.{List}
use Prim.Native.Nat.{ℕ, ◌*◌, ◌-◌, ◌≤◌}
use native.Mathlib.Omega.{arith}
use lib.ListN.{length, take, length-take}
use Rattle.std.specs.Result.{result_unwrap_or}
use Rattle.laws.specs.Small.{differ}
use Rattle.fill.specs.Fill.{cleared}
use Rattle.reading.specs.Answer.{Answer, refused, read}
use Rattle.pack_layout.specs.Pack.{Stored}
use Rattle.pack_layout.specs.Table.{entries}
use Rattle.pack_reading.specs.Pack.{to_pack, table_of}
use Rattle.pack_reading.specs.Theorems.{length-flat, count_entries}
use Rattle.std.specs.Prelude.{Ok, Err}
use Rattle.packs.specs.Files.{Reading, Fills, answer_of}

-- ---- The answer and the table

module _ (mark : List ℕ) where
  -- the entries that stand at the table's start are inside it
  pub fills_fit : (x : Answer (List Stored)) (table : List ℕ) (files : ℕ) → Fills mark x table (Ok files) → 4 * files ≤ length table
  fills_fit (refused number place) table files f = differ cc
  fills_fit (read fs e) table files f =
      let n : files ≡ length fs = cc f.0 in
      let l : length (take (4 * length fs) table) ≡ 4 * length fs = ap length f.1 ∙ length-flat (entries mark 4 fs) ∙ ap (λ (k : ℕ). 4 * k) (count_entries mark 4 fs) in
      omega (arith, length-take (4 * length fs) table)

  -- what a caller is told once the table is cleared behind the entries
  pub record Told (x : Answer (List Stored)) (words : ℕ) (r : Reading) (table : List ℕ) : Type 0 where
    pub answers : r ≡ answer_of (to_pack x)
    pub leaves : table ≡ table_of mark (to_pack x) words

  -- the table is cleared behind the files that were read, all of it after a refusal
  pub told_cleared : (x : Answer (List Stored)) (table : List ℕ) (words : ℕ) (r : Reading) → length table ≡ words → Fills mark x table r → Told x words r (cleared table (4 * result_unwrap_or r 0))
  unfolding to_pack table_of cleared
  told_cleared (refused n p) table words (Err e) l f = let z : length table - 0 ≡ length table = omega arith in record { answers = f; leaves = rw (z, l) }
  told_cleared (refused n p) table words (Ok files) l f = differ cc
  told_cleared (read fs e) table words (Err d) l f = differ (cc f.0)
  told_cleared (read fs e) table words (Ok files) l f =
      let n : files ≡ length fs = cc f.0 in
      record { answers = f.0; leaves = rw (n, l, f.1) }

  pub cleared_fit : (x : Answer (List Stored)) (table : List ℕ) (r : Reading) → Fills mark x table r → 4 * result_unwrap_or r 0 ≤ length table
  cleared_fit x table (Err e) f = omega arith
  cleared_fit x table (Ok files) f = fills_fit x table files f

-- What a lookup and the loader say of a file of a pack. Assumes nothing.
use Rattle.std.specs.Prelude.{◌≡◌, refl, List, ℕ, ◌+◌, ◌-◌, length, take, drop, Option, Some, None}
use Rattle.std.proofs.Common.{ap, arith}
use Rattle.laws.specs.Small.{differ}
use Rattle.fill.specs.Fill.{cleared}
use Rattle.reading.specs.File.{table_of}
use Rattle.load.specs.Under.{load_under}
use Rattle.load.specs.Loads.{Loading, answer_of}
use Rattle.pack_reading.specs.Lookup.{Found, absent, found}
use Rattle.pack_lookup.specs.declared.Part.{Part}
use Rattle.pack_lookup.specs.Lookup as lookup
use Rattle.pack_lookup.specs.Lookup.{found_as}
use Rattle.pack_load.specs.Opened.{opening, leaving}

-- what is told of a file of a pack, and what the words hold
pub record Told (enums file : List ℕ) (words : ℕ) (x : Found) (r : Option Loading) (exit : List ℕ) : Type 0 where
  pub answers : r ≡ opening enums file words x
  pub leaves : exit ≡ leaving enums file words x

pub told-absent : (enums file entry : List ℕ) (x : Found) → None ≡ found_as x → Told enums file (length entry) x None (cleared entry 0)
unfolding cleared
told-absent enums file entry absent q = let z : length entry - 0 ≡ length entry = omega arith in record { answers = refl; leaves = rw z }
told-absent enums file entry (found first count) q = differ cc

-- a part of the pack
abbrev pub part : (file : List ℕ) → Part → List ℕ
part file p = take (p.first + p.count - p.first) (drop p.first file)

pub told_found : (enums file : List ℕ) (words : ℕ) (x : Found) {p : Part} (r : Loading) (exit : List ℕ) → Some p ≡ found_as x
    → r ≡ answer_of (part file p) (load_under enums (part file p) words) → exit ≡ table_of (load_under enums (part file p) words) words → Told enums file words x (Some r) exit
told_found enums file words absent r exit q a l = differ cc
told_found enums file words (found f n) {p} r exit q a l =
    let z : p ≡ lookup.part f n = cc in
    let e : f + n - f ≡ n = omega arith in
    let s : part file p ≡ take n (drop f file) = rw (z, e) in
    record { answers = ap (λ (l : Loading). Some l) (rw s at a); leaves = rw s at l }

-- What a lookup by path answers in code. Assumes nothing.
use Rattle.std.specs.Prelude.{◌≡◌, refl, List, [], ◌∷◌, ℕ, ◌+◌, ◌-◌, ◌≤◌, length, take, drop, get_or, Option, Some, None}
use Rattle.std.proofs.Common.{inl, inr, arith}
use Rattle.laws.specs.Small.{differ}
use Rattle.pack_layout.specs.Table.{Entry, entry, wholes}
use Rattle.pack_layout.specs.Lookup.{FirstMatch}
use Rattle.pack_reading.specs.Lookup.{Found, absent, found, find_in, find_of, Says, find_says}
use Rattle.pack_lookup.specs.declared.Part.{Part}
pub use Rattle.pack_lookup.specs.Written.{part}

-- the entry at word i of a table
abbrev pub entry_at : (table : List ℕ) (i : ℕ) → Entry
entry_at table i = entry (get_or table i 0) (get_or table (i + 1) 0) (get_or table (i + 2) 0) (get_or table (i + 3) 0)

-- nothing, or where the data starts and how many bytes it has
abbrev pub found_as : Found → Option Part
found_as absent = None
found_as (found first count) = Some (part first count)

-- the data that a lookup names, none where nothing matches
abbrev pub data_of : (file : List ℕ) → Found → List ℕ
data_of file absent = []
data_of file (found first count) = take count (drop first file)

-- ---- What was found lies in the pack

first_inside : (file path : List ℕ) (es : List Entry) (first count : ℕ) → FirstMatch file path es first count → first + count ≤ length file
unfolding FirstMatch
first_inside file path [] first count m = absurd m
first_inside file path (e ∷ es) first count (inl m) = rw (m.1, m.2) m.0.data_inside
first_inside file path (e ∷ es) first count (inr m) = first_inside file path es first count m.1

says_inside : (file path : List ℕ) (es : List Entry) (x : Found) {p : Part} → Says file path es x → Some p ≡ found_as x → p.first + p.count ≤ length file
unfolding Says
says_inside file path es absent s e = differ cc
says_inside file path es (found a b) {p} s e =
    let q : p ≡ part a b = cc in
    rw q (first_inside file path es a b s)

pub data_inside : (file table path : List ℕ) {p : Part} → Some p ≡ found_as (find_of file table path) → p.first + p.count ≤ length file
unfolding find_of
data_inside file table path q = says_inside file path (wholes table) (find_in file path (wholes table)) (find_says file path (wholes table)) q

pub data_found : (file : List ℕ) (x : Found) {p : Part} → Some p ≡ found_as x → take (p.first + p.count - p.first) (drop p.first file) ≡ data_of file x
data_found file absent q = differ cc
data_found file (found a b) {p} q =
    let r : p ≡ part a b = cc in
    let e : a + b - a ≡ b = omega arith in
    rw (r, e)

pub data_absent : (file : List ℕ) (x : Found) → None ≡ found_as x → [] ≡ data_of file x
data_absent file absent q = refl
data_absent file (found a b) q = differ cc

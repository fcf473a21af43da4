-- A lookup by path (Req 01), for tables of any words. Assumes nothing.
use Rattle.std.specs.Prelude.{◌≡◌, Bool, ◌&&◌, ◌↔◌, leb, take, drop, replicate}
use Rattle.std.proofs.Math.Path.{refl, sym, subst}
use Rattle.std.proofs.Common.{ap, ◌∙◌, arith}
use Rattle.std.proofs.Math.Bool.{true, false, cond}
use mathlib.Core.List.{List, [], ◌∷◌, ◌++◌}
use Rattle.std.proofs.Math.Logic.{inl, inr}
use Prim.Native.Nat.{ℕ, zero, suc, ◌+◌}
use Rattle.std.proofs.Math.ListN.{length}
use borrow.Author.Tests.{leb-true, le-leb}
use Rattle.laws.specs.Small.{both, differ}
use Rattle.pack_layout.specs.Pack.{Stored, Lawful, record_bytes, Each, PackLays}
use Rattle.pack_layout.specs.Table.{Entry, flat, wholes, entry_of, entries}
use Rattle.pack_layout.specs.Parts.{NamesOne, Names}
use Rattle.pack_layout.specs.Lookup.{lowered, Matches, NoMatch, FirstMatch, Content, missing, content}
use Rattle.reading.specs.Same.{same, same_sound, same_complete}
use Rattle.pack_reading.specs.Parts.{names}
use Rattle.pack_reading.specs.Lookup.{Found, Says, absent, bytes_of, find_in, find_of, find_says, found, matches, wanted}

-- ---- Which entry it is

module _ (file path : List ℕ) where
  -- no entry matches where one is the first to match
  apart : (es : List Entry) (first count : ℕ) → NoMatch file path es → FirstMatch file path es first count → ⊥
  unfolding NoMatch FirstMatch
  apart [] first count n f = f
  apart (e ∷ es) first count n (inl f) = n.0 f.0
  apart (e ∷ es) first count n (inr f) = apart es first count n.1 f.1

  pub absent_exactly : (es : List Entry) → (find_in file path es ≡ absent) ↔ NoMatch file path es
  unfolding Says
  absent_exactly es = (λ q. subst (Says file path es) q (find_says file path es), λ n. go (find_in file path es) (find_says file path es) n) where
    go : (x : Found) → Says file path es x → NoMatch file path es → x ≡ absent
    go absent s n = refl
    go (found first count) s n = absurd (apart es first count n s)

wholes-flat : (es : List Entry) (words : List ℕ) → wholes (flat es ++ words) ≡ es ++ wholes words
unfolding wholes flat
wholes-flat [] words = refl
wholes-flat (e ∷ es) words = ap (λ (l : List Entry). e ∷ l) (wholes-flat es words)

module _ (file path : List ℕ) where
  -- zeros match nothing
  zeros : (n : ℕ) → find_in file path (wholes (replicate n 0)) ≡ absent
  unfolding wholes find_in matches
  zeros zero = refl
  zeros (suc zero) = refl
  zeros (suc (suc zero)) = refl
  zeros (suc (suc (suc zero))) = refl
  zeros (suc (suc (suc (suc n)))) = zeros n

  -- an entry that names a lawful file matches exactly where its path does
  matches_one : (e : Entry) (f : Stored) → NamesOne file e f → Lawful f → e.path_length ≡ length f.path → matches file path e ≡ same (lowered f.path) (lowered path)
  unfolding matches
  matches_one e f w l k =
      rw (
        le-leb 1 e.path_length (omega (arith, l.not_empty)),
        le-leb (e.path_start + e.path_length) (length file) w.path_part.inside,
        le-leb (e.data_start + e.data_length) (length file) w.data_part.inside,
        w.path_part.bytes_are,
      )

chosen : (file : List ℕ) (t : Bool) (first count : ℕ) (x : Found) (bytes : List ℕ) (y : Content) → take count (drop first file) ≡ bytes → bytes_of file x ≡ y
    → bytes_of file (cond t (found first count) x) ≡ cond t (content bytes) y
unfolding bytes_of
chosen file true first count x bytes y p q = ap content p
chosen file false first count x bytes y p q = q

module _ (mark file path : List ℕ) where
  by_names : (at : ℕ) (fs : List Stored) (n : ℕ) → Names file (entries mark at fs) fs → Each Lawful fs
      → bytes_of file (find_in file path (entries mark at fs ++ wholes (replicate n 0))) ≡ wanted path fs
  unfolding Names Each wanted bytes_of find_in entries entry_of
  by_names at [] n w l = rw (zeros file path n)
  by_names at (f ∷ fs) n w l =
      let e = entry_of mark at f in
      let rest = entries mark (at + length (record_bytes mark f)) fs ++ wholes (replicate n 0) in
      let m : matches file path e ≡ same (lowered f.path) (lowered path) = matches_one file path e f w.0 l.0 refl in
      let r : bytes_of file (find_in file path rest) ≡ wanted path fs = by_names (at + length (record_bytes mark f)) fs n w.1 l.1 in
      rw m (chosen file (same (lowered f.path) (lowered path)) e.data_start e.data_length (find_in file path rest) f.content (wanted path fs) w.0.data_part.bytes_are r)

  -- a lookup in the table that reading left gives the data of the pack's first file of that path, whatever the form of the pack
  pub looks_up : (fs : List Stored) (n : ℕ) → PackLays mark fs file → bytes_of file (find_of file (flat (entries mark 4 fs) ++ replicate n 0) path) ≡ wanted path fs
  unfolding find_of
  looks_up fs n w = rw (wholes-flat (entries mark 4 fs) (replicate n 0)) (by_names 4 fs n (names mark file fs w) w.lawful)

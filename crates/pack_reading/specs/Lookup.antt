-- A lookup by path (Req 01), for tables of any words. Assumes nothing.
use Rattle.std.specs.Prelude.{◌≡◌, Bool, ◌&&◌, ◌↔◌, leb, take, drop, replicate}
use Rattle.std.proofs.Math.Path.{refl, sym, subst}
use Rattle.std.proofs.Common.{ap, ◌∙◌, arith}
use Rattle.std.proofs.Math.Bool.{true, false, cond}
use mathlib.Core.List.{List, [], ◌∷◌, ◌++◌}
use Rattle.std.proofs.Math.Logic.{inl, inr}
use Prim.Native.Nat.{ℕ, zero, suc, ◌+◌}
use Rattle.std.proofs.Math.ListN.{length}
use borrow.Author.Tests.{leb-true, le-leb}
use Rattle.laws.specs.Small.{both, differ}
use Rattle.pack_layout.specs.Pack.{Stored, Lawful, record_bytes, Each, PackLays}
use Rattle.pack_layout.specs.Table.{Entry, flat, wholes, entry_of, entries}
use Rattle.pack_layout.specs.Parts.{NamesOne, Names}
use Rattle.pack_layout.specs.Lookup.{lowered, Matches, NoMatch, FirstMatch, Content, missing, content}
use Rattle.reading.specs.Same.{same, same_sound, same_complete}
use Rattle.pack_reading.specs.Parts.{names}

-- ---- What a lookup answers

-- where the data starts and how long it is, or nothing
pub data Found : Type 0 where
  absent : Found
  found : (first count : ℕ) → Found

module _ (file path : List ℕ) where
  unfoldable pub matches : Entry → Bool
  matches e =
      leb 1 e.path_length && (leb (e.path_start + e.path_length) (length file) && (leb (e.data_start + e.data_length) (length file)
      && same (lowered (take e.path_length (drop e.path_start file))) (lowered path)))

  unfoldable pub find_in : List Entry → Found
  find_in [] = absent
  find_in (e ∷ es) = cond (matches e) (found e.data_start e.data_length) (find_in es)

-- for a table of any words
unfoldable pub find_of : (file words path : List ℕ) → Found
find_of file words path = find_in file path (wholes words)

-- ---- Which entry it is

module _ (file path : List ℕ) where
  pub matches-sound : (e : Entry) → matches file path e ≡ true → Matches file path e
  unfolding matches
  matches-sound e t =
      let a = both (leb 1 e.path_length) _ t in
      let b = both (leb (e.path_start + e.path_length) (length file)) _ a.1 in
      let c = both (leb (e.data_start + e.data_length) (length file)) _ b.1 in
      record {
        named = leb-true 1 e.path_length a.0;
        path_inside = leb-true (e.path_start + e.path_length) (length file) b.0;
        data_inside = leb-true (e.data_start + e.data_length) (length file) c.0;
        equal = same_sound (lowered (take e.path_length (drop e.path_start file))) (lowered path) c.1;
      }

  pub matches-complete : (e : Entry) → Matches file path e → matches file path e ≡ true
  unfolding matches
  matches-complete e m =
      rw (
        le-leb 1 e.path_length m.named,
        le-leb (e.path_start + e.path_length) (length file) m.path_inside,
        le-leb (e.data_start + e.data_length) (length file) m.data_inside,
        m.equal,
      ) (same_complete (lowered path))

  -- what the answer says of the entries
  unfoldable pub Says : List Entry → Found → Type 0
  Says es absent = NoMatch file path es
  Says es (found first count) = FirstMatch file path es first count

  says_later : (e : Entry) (es : List Entry) (x : Found) → (Matches file path e → ⊥) → Says es x → Says (e ∷ es) x
  unfolding Says NoMatch FirstMatch
  says_later e es absent n s = (n, s)
  says_later e es (found first count) n s = inr (n, s)

  -- Req 01: "gives the first match's data, and "absent" exactly if no path matches"
  pub find_says : (es : List Entry) → Says es (find_in file path es)
  unfolding find_in Says NoMatch FirstMatch
  find_says [] = tt
  find_says (e ∷ es) = go (matches file path e) refl (find_says es) where
    go : (t : Bool) → matches file path e ≡ t → Says es (find_in file path es) → Says (e ∷ es) (cond t (found e.data_start e.data_length) (find_in file path es))
    go true q s = inl (matches-sound e q, refl, refl)
    go false q s = says_later e es (find_in file path es) (λ m. let z : true ≡ false = sym (matches-complete e m) ∙ q in differ cc) s

  -- the first entry that matches is the one that is found
  pub first_exactly : (es : List Entry) (first count : ℕ) → FirstMatch file path es first count → find_in file path es ≡ found first count
  unfolding FirstMatch find_in
  first_exactly [] first count f = absurd f
  first_exactly (e ∷ es) first count (inl f) = rw (matches-complete e f.0, f.1, f.2)
  first_exactly (e ∷ es) first count (inr f) = go (matches file path e) refl (first_exactly es first count f.1) where
    go : (t : Bool) → matches file path e ≡ t → find_in file path es ≡ found first count → cond t (found e.data_start e.data_length) (find_in file path es) ≡ found first count
    go true q s = absurd (f.0 (matches-sound e q))
    go false q s = s

-- ---- In the table of a pack it gives the data of the first file of that path

-- the data of the first file of a path, by the files alone
unfoldable pub wanted : (path : List ℕ) → List Stored → Content
wanted path [] = missing
wanted path (f ∷ fs) = cond (same (lowered f.path) (lowered path)) (content f.content) (wanted path fs)

-- the bytes that a lookup names
unfoldable pub bytes_of : (file : List ℕ) → Found → Content
bytes_of file absent = missing
bytes_of file (found first count) = content (take count (drop first file))

-- The String keys of a dictionary, gathered by their row numbers, and the contracts over them. Assumes nothing.
use Rattle.std.specs.Prelude.{◌≡◌, Bool, true, false, eqb, set, Option}
use Rattle.std.proofs.Math.Path.{refl, sym, ap}
use Rattle.std.proofs.Common.{◌∙◌, length-set, length-drop, get_or-set_same, get_or-set_other, eqb-true}
use mathlib.Core.List.{List, [], ◌∷◌}
use Prim.Native.Nat.{ℕ, zero, suc, ◌+◌, ◌-◌, ◌<◌, ◌≤◌}
use native.Mathlib.Omega.{arith}
use Rattle.std.proofs.Math.ListN.{length, drop, get_or}
use Rattle.std.proofs.Math.Seq.{drop-cons}
use Rattle.std.proofs.lemmas.Bool.{eqb-false}
use Rattle.laws.specs.Small.{differ}
use Rattle.layout.specs.Rows.{Row, row, words, width}
use Rattle.table.specs.declared.Grid.{Grid}
use Rattle.table.specs.Grids.{cell_of}
use Rattle.profile.specs.Stand.{text_of}
use Rattle.profile.specs.Offences.{next, skip, kind_of, key_rows, twins}
use Rattle.fault_places.specs.Places.{lowest_place, Lowest}
use Rattle.used_rows.specs.Held.{word_in, Held, Follows, Tells, kind_word, drop_past}
use Rattle.key_order.specs.RowText.{text_from_lem}
use Rattle.key_order.specs.Texts.{key_text}
use Rattle.key_repeats.specs.Hits.{Pair}
use Rattle.key_repeats.specs.Twins.{if_string, strings, Ahead, keys-lowest}

-- a row of some, by its number
abbrev pub no_row : Row
no_row = row 0 0 0 0 0 0 0

abbrev pub row_at : List Row → ℕ → Row
row_at rows i = get_or rows i no_row

-- the String keys among n, the first of which is row `from`
unfoldable pub keys_from : (n from : ℕ) → List Row → List Row
keys_from n from rows = strings (key_rows n (drop from rows))

-- the first m of some rows stand at numbers that a list has
abbrev pub Noted : (used : ℕ) (rows found : List Row) (keys : List ℕ) (m : ℕ) → Type 0
Noted used rows found keys m = (k : ℕ) → k < m → (get_or keys k 0 < used) × (row_at rows (get_or keys k 0) ≡ row_at found k)

-- m keys are gathered
abbrev pub Gathers : Grid → (table : List ℕ) (used n from : ℕ) (keys : List ℕ) (m : ℕ) → Type 0
Gathers g table used n from keys m = (rows : List Row) → Held g table used rows → (length (keys_from n from rows) ≡ m) × Noted used rows (keys_from n from rows) keys m

-- what is left of them behind m, with `left` keys from a row on
pub record Left (used n from : ℕ) (rows : List Row) (keys : List ℕ) (m left at : ℕ) : Type 0 where
  pub few : m ≤ length (keys_from n from rows)
  pub rest : drop m (keys_from n from rows) ≡ keys_from left at rows
  pub noted : Noted used rows (keys_from n from rows) keys m

-- a key is noted if it is a String
pub record Notes (entry exit : List ℕ) (m at kind r : ℕ) : Type 0 where
  pub size : length exit ≡ length entry
  pub string : kind ≡ 13 → m < length entry → (exit ≡ set entry m at) × (r ≡ m + 1)
  pub other : (kind ≡ 13 → ⊥) → (exit ≡ entry) × (r ≡ m)
  pub within : r ≤ m + 1

-- ---- Steps

pub other_noted : (l : List ℕ) (m at kind : ℕ) → (kind ≡ 13 → ⊥) → Notes l l m at kind m
other_noted l m at kind n = record { size = refl; string = λ e h. absurd (n e); other = λ _. (refl, refl); within = omega arith }

pub full-noted : (l : List ℕ) (m at kind : ℕ) → kind ≡ 13 → length l ≤ m → Notes l l m at kind m
full-noted l m at kind e h = record { size = refl; string = λ _ k. absurd (omega arith); other = λ n. absurd (n e); within = omega arith }

pub string-noted : (l : List ℕ) (m at kind : ℕ) → kind ≡ 13 → Notes l (set l m at) m at kind (m + 1)
string-noted l m at kind e = record { size = length-set l m at; string = λ _ _. (refl, refl); other = λ n. absurd (n e); within = omega arith }

drop_more : (m : ℕ) (l : List Row) {r : Row} {s : List Row} → drop m l ≡ r ∷ s → (m < length l) × (row_at l m ≡ r) × (drop (m + 1) l ≡ s)
drop_more zero [] e = differ cc
drop_more zero (x ∷ l) e = (omega arith, cc, cc)
drop_more (suc m) [] e = differ cc
drop_more (suc m) (x ∷ l) e =
    let y = drop_more m l e in
    let z : suc m + 1 ≡ suc (m + 1) = omega arith in
    ((let h = y.0 in omega arith), y.1, rw z y.2)

module _ (g : Grid) (table : List ℕ) (used n from : ℕ) (rows : List Row) (held : Held g table used rows) where
  pub none-gathered : (keys : List ℕ) → Left used n from rows keys 0 n from
  none-gathered keys = record { few = omega arith; rest = refl; noted = λ k h. absurd (omega arith) }

  nothing_past : (left at : ℕ) → used ≤ at → keys_from left at rows ≡ []
  unfolding keys_from key_rows strings
  nothing_past zero at h = refl
  nothing_past (suc left) at h = rw (drop_past rows at (omega (arith, held.count)))

  no_keys : (at : ℕ) → keys_from 0 at rows ≡ []
  unfolding keys_from key_rows strings
  no_keys at = refl

  finished : (keys : List ℕ) (m left at : ℕ) → keys_from left at rows ≡ [] → Left used n from rows keys m left at → (length (keys_from n from rows) ≡ m) × Noted used rows (keys_from n from rows) keys m
  finished keys m left at e l =
      let d : length (keys_from n from rows) - m ≡ 0 = sym (length-drop m (keys_from n from rows)) ∙ ap length (l.rest ∙ e) in
      (omega (arith, l.few), l.noted)

  pub all_gathered : (keys : List ℕ) (m left at : ℕ) → left ≤ 0 → Left used n from rows keys m left at → (length (keys_from n from rows) ≡ m) × Noted used rows (keys_from n from rows) keys m
  all_gathered keys m left at h l = let z : left ≡ 0 = omega arith in finished keys m left at (ap (λ (k : ℕ). keys_from k at rows) z ∙ no_keys at) l

  pub rows-ended : (keys : List ℕ) (m left at : ℕ) → used ≤ at → Left used n from rows keys m left at → (length (keys_from n from rows) ≡ m) × Noted used rows (keys_from n from rows) keys m
  rows-ended keys m left at h l = finished keys m left at (nothing_past left at h) l

  module _ (left at : ℕ) (some : 0 < left) (there : at < used) {value behind kind : ℕ} (f : Follows g table used at value) (h : Follows g table used value behind) (t : Tells g table used (λ rows. word_in rows at 0) kind) where
    step : (r : Row) × (row_at rows at ≡ r) × (r.kind ≡ kind) × (keys_from left at rows ≡ if_string (eqb kind 13) r (keys_from (left - 1) behind rows))
    unfolding keys_from key_rows strings skip kind_of
    step =
        let d = drop-cons rows at no_row (omega (arith, held.count)) in
        let k : (row_at rows at).kind ≡ kind = sym (ap kind_of d) ∙ kind_word rows at ∙ sym (t rows held) in
        let z : left ≡ suc (left - 1) = omega arith in
        let b : drop behind rows ≡ skip 2 (row_at rows at ∷ drop (suc at) rows) = h.behind rows held ∙ ap next (f.behind rows held ∙ ap next d) in
        let e : keys_from left at rows ≡ strings (key_rows (suc (left - 1)) (row_at rows at ∷ drop (suc at) rows))
        = ap (λ (n : ℕ). strings (key_rows n (drop at rows))) z ∙ ap (λ (l : List Row). strings (key_rows (suc (left - 1)) l)) d in
        let behind_it = skip 2 (row_at rows at ∷ drop (suc at) rows) in (
          row_at rows at,
          refl,
          k,
          e ∙ ap (λ (q : ℕ). if_string (eqb q 13) (row_at rows at) (strings (key_rows (left - 1) behind_it))) k
              ∙ ap (λ (l : List Row). if_string (eqb kind 13) (row_at rows at) (strings (key_rows (left - 1) l))) (sym b),
        )

    pub one_gathered : (entry exit : List ℕ) (m r : ℕ) → m < length entry → Notes entry exit m at kind r → Left used n from rows entry m left at → Left used n from rows exit r (left - 1) behind
    one_gathered entry exit m r room w l = go (eqb kind 13) refl where
      go : (b : Bool) → eqb kind 13 ≡ b → Left used n from rows exit r (left - 1) behind
      go true q =
          let x = w.string (eqb-true kind 13 q) room in
          let s = step in
          let d = drop_more m (keys_from n from rows) (l.rest ∙ s.3 ∙ ap (λ (b : Bool). if_string b s.0 (keys_from (left - 1) behind rows)) q) in
          record {
            few = omega (arith, d.0, x.1);
            rest = ap (λ (k : ℕ). drop k (keys_from n from rows)) x.1 ∙ d.2;
            noted = λ k i. noted_more x.0 (s.1 ∙ sym d.1) k (omega (arith, x.1));
          } where
            noted_more : exit ≡ set entry m at → row_at rows at ≡ row_at (keys_from n from rows) m → (k : ℕ) → k < m + 1
                → (get_or exit k 0 < used) × (row_at rows (get_or exit k 0) ≡ row_at (keys_from n from rows) k)
            noted_more e y k i = which (eqb k m) refl where
              which : (b : Bool) → eqb k m ≡ b → (get_or exit k 0 < used) × (row_at rows (get_or exit k 0) ≡ row_at (keys_from n from rows) k)
              which true p =
                  let z = eqb-true k m p in
                  let u : get_or exit k 0 ≡ at = ap (λ (l : List ℕ). get_or l k 0) e ∙ ap (λ (i : ℕ). get_or (set entry m at) i 0) z ∙ get_or-set_same entry m at 0 room in
                  (omega arith, ap (row_at rows) u ∙ y ∙ ap (row_at (keys_from n from rows)) (sym z))
              which false p =
                  let u : get_or exit k 0 ≡ get_or entry k 0 = ap (λ (l : List ℕ). get_or l k 0) e ∙ get_or-set_other entry m k at 0 (eqb-false k m p) in
                  let v = l.noted k (omega (arith, eqb-false k m p)) in
                  ((let o = v.0 in omega arith), ap (row_at rows) u ∙ v.1)
      go false q =
          let x = w.other (eqb-false kind 13 q) in
          let s = step in
          record {
            few = omega (arith, l.few, x.1);
            rest = ap (λ (k : ℕ). drop k (keys_from n from rows)) x.1 ∙ l.rest ∙ s.3 ∙ ap (λ (b : Bool). if_string b s.0 (keys_from (left - 1) behind rows)) q;
            noted = λ k i. rw x.0 (l.noted k (omega (arith, x.1)));
          }

-- ---- The texts of gathered keys

abbrev pub key_place : Grid → (table keys : List ℕ) → ℕ → ℕ
key_place g table keys i = get_or table (cell_of g (get_or keys i 0) 1) 0

-- the lowest place of a key that repeats an earlier one, among m
abbrev pub LowestKey : (file : List ℕ) → Grid → (table keys : List ℕ) (m : ℕ) → Option ℕ → Type 0
LowestKey file g table keys m r = Lowest (Pair (key_text file g table keys) (key_place g table keys) m) r

-- the same of the keys of a dictionary
abbrev pub LowestAmong : (file : List ℕ) → Grid → (table : List ℕ) (used n from : ℕ) → Option ℕ → Type 0
LowestAmong file g table used n from r = (rows : List Row) → Held g table used rows → r ≡ lowest_place (twins file [] (key_rows n (drop from rows)))

string_kind : (l : List Row) (k : ℕ) → k < length (strings l) → (row_at (strings l) k).kind ≡ 13
unfolding strings
string_kind [] k h = absurd (omega arith)
string_kind (r ∷ l) k h = go (eqb r.kind 13) refl k h (λ i j. string_kind l i j) where
  go : (b : Bool) → eqb r.kind 13 ≡ b → (k : ℕ) → k < length (if_string b r (strings l)) → ((i : ℕ) → i < length (strings l) → (row_at (strings l) i).kind ≡ 13) → (row_at (if_string b r (strings l)) k).kind ≡ 13
  go true e zero h f = eqb-true r.kind 13 e
  go true e (suc k) h f = f k (omega arith)
  go false e k h f = f k h

row_word : (rows : List Row) (i j : ℕ) → i < length rows → word_in rows i j ≡ get_or (words (row_at rows i)) j 0
unfolding word_in
row_word [] i j h = absurd (omega arith)
row_word (r ∷ rows) zero j h = refl
row_word (r ∷ rows) (suc i) j h = row_word rows i j (omega arith)

module _ (file : List ℕ) (text : ℕ → List ℕ) (place : ℕ → ℕ) where
  ahead_by : (n : ℕ) (found : List Row) → ((k : ℕ) → k < length found → (text (n + k) ≡ text_of file (row_at found k)) × (place (n + k) ≡ (row_at found k).first)) → Ahead file text place n found
  unfolding Ahead
  ahead_by n [] f = tt
  ahead_by n (r ∷ found) f =
      let z : n + 0 ≡ n = omega arith in
      let x = f 0 (omega arith) in
      (ap text (sym z) ∙ x.0, ap place (sym z) ∙ x.1, ahead_by (suc n) found (λ k h. further k (f (suc k) (omega arith)))) where
        further : (k : ℕ) → (text (n + suc k) ≡ text_of file (row_at found k)) × (place (n + suc k) ≡ (row_at found k).first)
            → (text (suc n + k) ≡ text_of file (row_at found k)) × (place (suc n + k) ≡ (row_at found k).first)
        further k y = let z : suc n + k ≡ n + suc k = omega arith in (ap text z ∙ y.0, ap place z ∙ y.1)

module _ (file : List ℕ) (g : Grid) (table : List ℕ) (used n from : ℕ) (keys : List ℕ) (m : ℕ) (gathered : Gathers g table used n from keys m) where
  noted_texts : (rows : List Row) → Held g table used rows → Ahead file (key_text file g table keys) (key_place g table keys) 0 (keys_from n from rows)
  unfolding key_text words keys_from
  noted_texts rows held = ahead_by file (key_text file g table keys) (key_place g table keys) 0 (keys_from n from rows) (λ k h. at k h) where
    at : (k : ℕ) → k < length (keys_from n from rows)
        → (key_text file g table keys (0 + k) ≡ text_of file (row_at (keys_from n from rows) k)) × (key_place g table keys (0 + k) ≡ (row_at (keys_from n from rows) k).first)
    at k h =
        let x = gathered rows held in
        let y = x.1 k (omega (arith, x.0)) in
        let i = get_or keys k 0 in
        let inside : get_or keys k 0 < length rows = omega (arith, y.0, held.count) in
        let z : 0 + k ≡ k = omega arith in
        let w : (j : ℕ) → j < width → get_or table (cell_of g (get_or keys k 0) j) 0 ≡ get_or (words (row_at (keys_from n from rows) k)) j 0
        = λ j b. held.cells (get_or keys k 0) j inside b ∙ row_word rows (get_or keys k 0) j inside ∙ ap (λ (r : Row). get_or (words r) j 0) y.1 in
        let one = w 1 (omega arith) in
        let five = w 5 (omega arith) in
        let kind : (row_at (keys_from n from rows) k).kind ≡ 13 = string_kind (key_rows n (drop from rows)) k h in
        (ap (key_text file g table keys) z ∙ rw (one, five) (sym (text_from_lem file (row_at (keys_from n from rows) k) kind)), ap (key_place g table keys) z ∙ one)

  pub gathered-lowest : (r : Option ℕ) → LowestKey file g table keys m r → LowestAmong file g table used n from r
  unfolding keys_from
  gathered-lowest r l rows held = keys-lowest file (key_text file g table keys) (key_place g table keys) (key_rows n (drop from rows)) m r (gathered rows held).0 (noted_texts rows held) l

-- 45, 46 and 47: the loader's places are those of keys, of the first object and of references that offend, and it answers the lowest. Assumes nothing.
use Rattle.std.specs.Prelude.{◌≡◌, Bool, ◌&&◌, ◌||◌, cond, ◌⊎◌, eqb, get_or}
use Rattle.std.proofs.Math.Path.{refl, sym, ap}
use Rattle.std.proofs.Common.{◌∙◌}
use Rattle.std.proofs.Math.Bool.{true, false}
use mathlib.Core.List.{List, [], ◌∷◌, ◌++◌, append_assoc, append-nil}
use Rattle.std.proofs.Math.Logic.{inl, inr}
use Prim.Native.Nat.{ℕ, zero, suc, ◌+◌, ◌*◌, ◌/◌, ◌<◌}
use native.Mathlib.Omega.{arith}
use Rattle.std.proofs.Math.ListN.{length, drop}
use borrow.Author.Tests.{eqb-true, eq-eqb}
use Rattle.laws.specs.Small.{differ, both}
use Rattle.layout.specs.Tree.{Trees, none, tree, count, size, kind_at}
use Rattle.layout.specs.Rows.{Row, row}
use Rattle.reading.specs.Same.{same, same_sound, same_complete}
use Rattle.profile.specs.Profile.{own_at, first_of}
use Rattle.profile.specs.Stand.{text_of, IsRow, Stand}
use Rattle.profile.specs.Offences.{wrong_at, skip, key_rows, twin, repeats, twins, repeated}
use Rattle.profile.specs.Rules.{or_right}
use Rattle.profile.specs.Keys.{stand_next}
use Rattle.fault_places.specs.Places.{lowest_place, Lowest, lowest-alike, Among, among-append, append-among, wrong-among, among-wrong, is_lowest}
use Rattle.profile_places.specs.Broken.{place_at, Somewhere, LaterKey}
use Rattle.profile_places.specs.Values.{KeyRow, behind_rows, found_somewhere, somewhere_found}

-- ---- Places that are found row by row, as what is said of some value

module _ (file : List ℕ) where
  -- ---- 45

  abbrev no_row : Row
  no_row = row 0 0 0 0 0 0 0

  abbrev Twin : (q r : Row) → Type 0
  Twin q r = (q.kind ≡ 13) × (r.kind ≡ 13) × (text_of file q ≡ text_of file r)

  twin_is : (q r : Row) → twin file q r ≡ true → Twin q r
  unfolding twin
  twin_is q r e =
      let a = both (eqb q.kind 13) (eqb r.kind 13 && same (text_of file q) (text_of file r)) e in
      let b = both (eqb r.kind 13) (same (text_of file q) (text_of file r)) a.1 in
      (eqb-true q.kind 13 a.0, eqb-true r.kind 13 b.0, same_sound (text_of file q) (text_of file r) b.1)

  is_twin : (q r : Row) → Twin q r → twin file q r ≡ true
  unfolding twin
  is_twin q r (a, b, e) = rw (eq-eqb q.kind 13 a, eq-eqb r.kind 13 b, e, same_complete (text_of file r))

  repeats_at : (seen : List Row) (r : Row) → repeats file seen r ≡ true → (i : ℕ) × (i < length seen) × Twin (get_or seen i no_row) r
  unfolding repeats
  repeats_at [] r e = differ cc
  repeats_at (q ∷ seen) r e = go (twin file q r) refl e (λ f. repeats_at seen r f) where
    go : (b : Bool) → twin file q r ≡ b → (b || repeats file seen r) ≡ true → (repeats file seen r ≡ true → (i : ℕ) × (i < length seen) × Twin (get_or seen i no_row) r)
        → (i : ℕ) × (i < suc (length seen)) × Twin (get_or (q ∷ seen) i no_row) r
    go true t e f = (0, omega arith, twin_is q r t)
    go false t e f = let x = f e in (suc x.0, (let h = x.1 in omega arith), x.2)

  at_repeats : (seen : List Row) (r : Row) (i : ℕ) → i < length seen → Twin (get_or seen i no_row) r → repeats file seen r ≡ true
  unfolding repeats
  at_repeats [] r i h t = absurd (omega arith)
  at_repeats (q ∷ seen) r zero h t = rw (is_twin q r t)
  at_repeats (q ∷ seen) r (suc i) h t = or_right (twin file q r) (repeats file seen r) (at_repeats seen r i (omega arith) t)

  -- key j of some is the twin of one of those seen, or of an earlier one
  abbrev Earlier : (seen keys : List Row) (j : ℕ) → Type 0
  Earlier seen keys j = ((i : ℕ) × (i < length seen) × Twin (get_or seen i no_row) (get_or keys j no_row)) ⊎ ((i : ℕ) × (i < j) × Twin (get_or keys i no_row) (get_or keys j no_row))

  abbrev TwinAt : (seen keys : List Row) (p : ℕ) → Type 0
  TwinAt seen keys p = (j : ℕ) × (j < length keys) × Earlier seen keys j × ((get_or keys j no_row).first ≡ p)

  among_twins : (seen keys : List Row) (p : ℕ) → Among p (twins file seen keys) → TwinAt seen keys p
  unfolding twins Among
  among_twins seen [] p m = absurd m
  among_twins seen (r ∷ keys) p m = go (among-append p (wrong_at (repeats file seen r) r.first) (twins file (r ∷ seen) keys) m) (λ x. among_twins (r ∷ seen) keys p x) where
    later : (j : ℕ) → Earlier (r ∷ seen) keys j → Earlier seen (r ∷ keys) (suc j)
    later j (inl (zero, h, e)) = inr (0, omega arith, e)
    later j (inl (suc i, h, e)) = inl (i, omega arith, e)
    later j (inr (i, h, e)) = inr (suc i, omega arith, e)

    go : Among p (wrong_at (repeats file seen r) r.first) ⊎ Among p (twins file (r ∷ seen) keys) → (Among p (twins file (r ∷ seen) keys) → TwinAt (r ∷ seen) keys p) → TwinAt seen (r ∷ keys) p
    go (inl x) f = let y = wrong-among (repeats file seen r) r.first p x in (0, omega arith, inl (repeats_at seen r y.0), y.1)
    go (inr x) f = let y = f x in (suc y.0, (let h = y.1 in omega arith), later y.0 y.2, y.3)

  twins_among : (seen keys : List Row) (p : ℕ) → TwinAt seen keys p → Among p (twins file seen keys)
  unfolding twins Among
  twins_among seen [] p (j, h, a, e) = absurd (omega arith)
  twins_among seen (r ∷ keys) p (zero, h, inl (i, l, t), e) =
      append-among p (wrong_at (repeats file seen r) r.first) (twins file (r ∷ seen) keys) (inl (among-wrong (repeats file seen r) r.first p (at_repeats seen r i l t) e))
  twins_among seen (r ∷ keys) p (zero, h, inr (i, l, t), e) = absurd (omega arith)
  twins_among seen (r ∷ keys) p (suc j, h, a, e) =
      append-among p (wrong_at (repeats file seen r) r.first) (twins file (r ∷ seen) keys) (inr (twins_among (r ∷ seen) keys p (j, omega arith, later a, e))) where
        later : Earlier seen (r ∷ keys) (suc j) → Earlier (r ∷ seen) keys j
        later (inl (i, l, q)) = inl (suc i, omega arith, q)
        later (inr (zero, l, q)) = inl (0, omega arith, q)
        later (inr (suc i, l, q)) = inr (i, omega arith, q)

  key_row : (n j : ℕ) (cs : Trees) (rows post : List Row) → Stand file cs rows → n ≡ (count cs + 1) / 2 → j < n → KeyRow file (get_or (key_rows n (rows ++ post)) j no_row) cs (rows ++ post) j
  unfolding Stand count key_rows skip kind_at own_at place_at first_of
  key_row zero j cs rows post s h l = absurd (omega arith)
  key_row (suc n) zero none rows post s h l = absurd (omega arith)
  key_row (suc n) (suc j) none rows post s h l = absurd (omega arith)
  key_row (suc n) zero (tree k i own cs rest) rows post (r, below, behind, e, q, s, t) h l = rw e (record { kind_is = q.kind_is; text_is = q.text_is; place_is = refl })
  key_row (suc n) (suc j) (tree k i own cs none) rows post s h l = absurd (omega arith)
  key_row (suc n) (suc j) (tree k i own cs (tree k' i' own' cs' rest)) rows post (r, below, behind, e, q, s, (r', below', behind', e', q', s', t')) h l =
      let a = stand_next file k i own cs r below (r' ∷ (below' ++ behind')) post q s in
      let b = stand_next file k' i' own' cs' r' below' behind' post q' s' in
      let c = key_row n j rest behind' post t' (omega arith) (omega arith) in
      let z : 2 * suc j ≡ suc (suc (2 * j)) = omega arith in
      let f : rows ++ post ≡ r ∷ (below ++ ((r' ∷ (below' ++ behind')) ++ post)) = ap (λ (l : List Row). l ++ post) (e ∙ ap (λ (l : List Row). r ∷ (below ++ l)) e') ∙ ap (λ (l : List Row). r ∷ l) (append_assoc below (r' ∷ (below' ++ behind')) post) in
      let T : Trees = tree k i own cs (tree k' i' own' cs' rest) in
      let g : key_rows (suc n) (rows ++ post) ≡ r ∷ key_rows n (behind' ++ post) = rw (e, e', a, b) in
      let d : drop (suc (size cs')) (drop (suc (size cs)) (rows ++ post)) ≡ behind' ++ post
      = ap (drop (suc (size cs'))) (ap (drop (suc (size cs))) f ∙ behind_rows file cs r below ((r' ∷ (below' ++ behind')) ++ post) s ∙ ap (λ (l : List Row). r' ∷ l) (append_assoc below' behind' post))
      ∙ behind_rows file cs' r' below' (behind' ++ post) s' in
      record {
        kind_is = ap (λ (l : List Row). (get_or l (suc j) no_row).kind) g ∙ c.kind_is ∙ ap (λ (m : ℕ). kind_at m T) (sym z);
        text_is = λ u. ap (λ (l : List Row). text_of file (get_or l (suc j) no_row)) g ∙ c.text_is (ap (λ (m : ℕ). kind_at m T) (sym z) ∙ u) ∙ ap (λ (m : ℕ). own_at m T) (sym z);
        place_is = ap (λ (l : List Row). (get_or l (suc j) no_row).first) g ∙ c.place_is ∙ ap (place_at (2 * j) rest) (sym d) ∙ ap (λ (m : ℕ). place_at m T (rows ++ post)) (sym z);
      }

  keys_length : (n : ℕ) (cs : Trees) (rows post : List Row) → Stand file cs rows → n ≡ (count cs + 1) / 2 → length (key_rows n (rows ++ post)) ≡ n
  unfolding Stand count key_rows skip
  keys_length zero cs rows post s h = none_length (rows ++ post) where
    none_length : (l : List Row) → length (key_rows 0 l) ≡ 0
    none_length l = refl
  keys_length (suc n) none rows post s h = absurd (omega arith)
  keys_length (suc n) (tree k i own cs none) rows post (r, below, behind, e, q, s, t) h = let z : n ≡ 0 = omega arith in rw (e, z)
  keys_length (suc n) (tree k i own cs (tree k' i' own' cs' rest)) rows post (r, below, behind, e, q, s, (r', below', behind', e', q', s', t')) h =
      let a = stand_next file k i own cs r below (r' ∷ (below' ++ behind')) post q s in
      let b = stand_next file k' i' own' cs' r' below' behind' post q' s' in
      rw (e, e', a, b) (ap suc (keys_length n rest behind' post t' (omega arith)))

  kind_inside : (j : ℕ) (cs : Trees) → kind_at j cs ≡ 13 → j < count cs
  unfolding kind_at count
  kind_inside j none e = absurd (omega arith)
  kind_inside zero (tree k i own cs rest) e = omega arith
  kind_inside (suc j) (tree k i own cs rest) e = let h = kind_inside j rest e in omega arith

  abbrev key_faults : Row → List Row → List ℕ
  key_faults r rows = cond (eqb r.kind 19) (twins file [] (key_rows ((r.children + 1) / 2) rows)) []

  key_step : (p k i : ℕ) (own : List ℕ) (cs : Trees) (r : Row) (below post : List Row) → IsRow file r k i own cs → Stand file cs below → Among p (key_faults r (below ++ post)) → LaterKey p k cs (below ++ post)
  unfolding Among
  key_step p k i own cs r below post o s m = go (eqb r.kind 19) refl m where
    n : ℕ
    n = (r.children + 1) / 2

    size_is : (r.children + 1) / 2 ≡ (count cs + 1) / 2
    size_is = ap (λ (m : ℕ). (m + 1) / 2) o.children_is

    found : TwinAt [] (key_rows ((r.children + 1) / 2) (below ++ post)) p → k ≡ 19 → LaterKey p k cs (below ++ post)
    found (j, h, inl (x, l, t), e) d = absurd (omega arith)
    found (j, h, inr (x, l, t), e) d =
        let len = keys_length ((r.children + 1) / 2) cs below post s size_is in
        let a = key_row ((r.children + 1) / 2) x cs below post s size_is (omega arith) in
        let b = key_row ((r.children + 1) / 2) j cs below post s size_is (omega arith) in
        let u : kind_at (2 * x) cs ≡ 13 = sym a.kind_is ∙ t.0 in
        let v : kind_at (2 * j) cs ≡ 13 = sym b.kind_is ∙ t.1 in
        (d, x, j, l, u, v, sym (a.text_is u) ∙ t.2 ∙ b.text_is v, sym b.place_is ∙ e)

    go : (b : Bool) → eqb r.kind 19 ≡ b → Among p (cond b (twins file [] (key_rows ((r.children + 1) / 2) (below ++ post))) []) → LaterKey p k cs (below ++ post)
    go true e m = found (among_twins [] (key_rows ((r.children + 1) / 2) (below ++ post)) p m) (sym o.kind_is ∙ eqb-true r.kind 19 e)
    go false e m = absurd m

  key_back : (p k i : ℕ) (own : List ℕ) (cs : Trees) (r : Row) (below post : List Row) → IsRow file r k i own cs → Stand file cs below → LaterKey p k cs (below ++ post) → Among p (key_faults r (below ++ post))
  key_back p k i own cs r below post o s (d, x, j, l, u, v, t, e) =
      let n = (r.children + 1) / 2 in
      let z : (r.children + 1) / 2 ≡ (count cs + 1) / 2 = ap (λ (m : ℕ). (m + 1) / 2) o.children_is in
      let c : 2 * j < count cs = kind_inside (2 * j) cs v in
      let h : j < (r.children + 1) / 2 = omega arith in
      let len = keys_length ((r.children + 1) / 2) cs below post s z in
      let a = key_row ((r.children + 1) / 2) x cs below post s z (omega arith) in
      let b = key_row ((r.children + 1) / 2) j cs below post s z h in
      rw (eq-eqb r.kind 19 (o.kind_is ∙ d)) (twins_among [] (key_rows ((r.children + 1) / 2) (below ++ post)) p
      (j, omega arith, inr (x, l, (a.kind_is ∙ u, b.kind_is ∙ v, a.text_is u ∙ t ∙ sym (b.text_is v))), b.place_is ∙ e))

  repeated_one : (r : Row) (rows : List Row) → repeated file (r ∷ rows) ≡ key_faults r rows ++ repeated file rows
  unfolding repeated
  repeated_one r rows = refl

  repeated_only : {A : Type 0} (p : ℕ) → A ⊎ Among p (repeated file []) → A
  unfolding repeated Among
  repeated_only p (inl a) = a
  repeated_only p (inr m) = absurd m

  -- 45
  pub keys-lowest : (ts : Trees) (rows : List Row) → Stand file ts rows → Lowest (λ p. Somewhere (LaterKey p) ts rows) (lowest_place (repeated file rows))
  keys-lowest ts rows s =
      lowest-alike (λ p. Among p (repeated file rows)) (λ p. Somewhere (LaterKey p) ts rows) (lowest_place (repeated file rows)) (λ p m. sound p m) (λ p x. complete p x) (is_lowest (repeated file rows)) where
        sound : (p : ℕ) → Among p (repeated file rows) → Somewhere (LaterKey p) ts rows
        sound p m = repeated_only p (rw (append-nil rows) at (found_somewhere file key_faults (repeated file) repeated_one (LaterKey p) p (key_step p) ts rows [] s (rw (append-nil rows) m)))

        complete : (p : ℕ) → Somewhere (LaterKey p) ts rows → Among p (repeated file rows)
        complete p x = rw (append-nil rows) at (somewhere_found file key_faults (repeated file) repeated_one (LaterKey p) p (key_back p) ts rows [] s (inl (rw (append-nil rows) x)))

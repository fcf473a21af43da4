-- 45, 46 and 47: the loader's places are those of keys, of the first object and of references that offend, and it answers the lowest. Assumes nothing.
use Rattle.std.specs.Prelude.{◌≡◌, Bool, not, ◌&&◌, ◌⊎◌, eqb}
use Rattle.std.proofs.Math.Path.{refl, sym, ap}
use Rattle.std.proofs.Common.{◌∙◌}
use Rattle.std.proofs.Math.Bool.{true, false}
use mathlib.Core.List.{List, [], ◌∷◌, ◌++◌, append_assoc, append-nil}
use Rattle.std.proofs.Math.Logic.{inl, inr}
use Prim.Native.Nat.{ℕ, zero, suc, ◌*◌, ◌<◌, ◌≤◌}
use native.Mathlib.Omega.{arith}
use Rattle.std.proofs.Math.ListN.{length, drop}
use Rattle.std.proofs.Math.Seq.{drop-append_seam}
use borrow.Author.Tests.{eqb-true, eqb-false, eq-eqb}
use Rattle.laws.specs.Small.{both}
use Rattle.layout.specs.Tree.{Trees, none, tree, count, size, kind_at}
use Rattle.layout.specs.Rows.{Row}
use Rattle.profile.specs.Profile.{Every, own_at, first_of}
use Rattle.profile.specs.Stand.{text_of, IsRow, Stand}
use Rattle.profile.specs.Offences.{wrong_at, next, skip, kind_of, detail_of, no_page, nextless}
use Rattle.profile.specs.Keys.{stand_length, stand_next, stand_detail}
use Rattle.fault_places.specs.Places.{first_place, Lowest, Among, among-append, append-among, wrong-among, among-wrong}
use Rattle.profile_places.specs.Broken.{place_at, Placing, Somewhere, NoNext}
use Rattle.profile_places.specs.Rising.{Least, first_lowest, least-wrong}
use Rattle.profile_places.specs.Pages.{Flat, RowsRise}

-- ---- Places that are found row by row, as what is said of some value

module _ (file : List ℕ) where
  -- the rows behind a value and all below it
  pub behind_rows : (cs : Trees) (r : Row) (below rest : List Row) → Stand file cs below → drop (suc (size cs)) (r ∷ (below ++ rest)) ≡ rest
  behind_rows cs r below rest s = ap (λ (n : ℕ). drop n (below ++ rest)) (sym (stand_length file cs below s)) ∙ drop-append_seam below rest

  module _ (G : Row → List Row → List ℕ) (L : List Row → List ℕ) (one : (r : Row) (rows : List Row) → L (r ∷ rows) ≡ G r rows ++ L rows) (P : Placing) (p : ℕ) where
    abbrev Step : Type 0
    Step = (k i : ℕ) (own : List ℕ) (cs : Trees) (r : Row) (below post : List Row) → IsRow file r k i own cs → Stand file cs below → Among p (G r (below ++ post)) → P k cs (below ++ post)

    abbrev Back : Type 0
    Back = (k i : ℕ) (own : List ℕ) (cs : Trees) (r : Row) (below post : List Row) → IsRow file r k i own cs → Stand file cs below → P k cs (below ++ post) → Among p (G r (below ++ post))

    pub found_somewhere : Step → (ts : Trees) (rows post : List Row) → Stand file ts rows → Among p (L (rows ++ post)) → Somewhere P ts (rows ++ post) ⊎ Among p (L post)
    unfolding Stand Somewhere
    found_somewhere step none rows post s m = inr (rw s at m)
    found_somewhere step (tree k i own cs rest) rows post (r, below, behind, e, q, s, t) m =
        let f : rows ++ post ≡ r ∷ (below ++ (behind ++ post)) = ap (λ (l : List Row). l ++ post) e ∙ ap (λ (l : List Row). r ∷ l) (append_assoc below behind post) in
        let n : Among p (G r (below ++ (behind ++ post)) ++ L (below ++ (behind ++ post))) = rw (one r (below ++ (behind ++ post))) at (rw f at m) in
        rw (f, behind_rows cs r below (behind ++ post) s) (go (among-append p (G r (below ++ (behind ++ post))) (L (below ++ (behind ++ post))) n)
        (λ x. found_somewhere step cs below (behind ++ post) s x) (λ x. found_somewhere step rest behind post t x)) where
          go : Among p (G r (below ++ (behind ++ post))) ⊎ Among p (L (below ++ (behind ++ post)))
              → (Among p (L (below ++ (behind ++ post))) → Somewhere P cs (below ++ (behind ++ post)) ⊎ Among p (L (behind ++ post)))
              → (Among p (L (behind ++ post)) → Somewhere P rest (behind ++ post) ⊎ Among p (L post))
              → (P k cs (below ++ (behind ++ post)) ⊎ (Somewhere P cs (below ++ (behind ++ post)) ⊎ Somewhere P rest (behind ++ post))) ⊎ Among p (L post)
          go (inl x) f g = inl (inl (step k i own cs r below (behind ++ post) q s x))
          go (inr x) f g = first (f x) where
            second : Somewhere P rest (behind ++ post) ⊎ Among p (L post)
                → (P k cs (below ++ (behind ++ post)) ⊎ (Somewhere P cs (below ++ (behind ++ post)) ⊎ Somewhere P rest (behind ++ post))) ⊎ Among p (L post)
            second (inl y) = inl (inr (inr y))
            second (inr y) = inr y

            first : Somewhere P cs (below ++ (behind ++ post)) ⊎ Among p (L (behind ++ post))
                → (P k cs (below ++ (behind ++ post)) ⊎ (Somewhere P cs (below ++ (behind ++ post)) ⊎ Somewhere P rest (behind ++ post))) ⊎ Among p (L post)
            first (inl y) = inl (inr (inl y))
            first (inr y) = second (g y)

    pub somewhere_found : Back → (ts : Trees) (rows post : List Row) → Stand file ts rows → Somewhere P ts (rows ++ post) ⊎ Among p (L post) → Among p (L (rows ++ post))
    unfolding Stand Somewhere
    somewhere_found back none rows post s (inl x) = absurd x
    somewhere_found back none rows post s (inr m) = rw s m
    somewhere_found back (tree k i own cs rest) rows post (r, below, behind, e, q, s, t) m =
        let f : rows ++ post ≡ r ∷ (below ++ (behind ++ post)) = ap (λ (l : List Row). l ++ post) e ∙ ap (λ (l : List Row). r ∷ l) (append_assoc below behind post) in
        rw (f, one r (below ++ (behind ++ post))) (append-among p (G r (below ++ (behind ++ post))) (L (below ++ (behind ++ post)))
        (go (rw (f, behind_rows cs r below (behind ++ post) s) at m) (λ x. somewhere_found back cs below (behind ++ post) s x) (λ x. somewhere_found back rest behind post t x))) where
          go : (P k cs (below ++ (behind ++ post)) ⊎ (Somewhere P cs (below ++ (behind ++ post)) ⊎ Somewhere P rest (behind ++ post))) ⊎ Among p (L post)
              → (Somewhere P cs (below ++ (behind ++ post)) ⊎ Among p (L (behind ++ post)) → Among p (L (below ++ (behind ++ post))))
              → (Somewhere P rest (behind ++ post) ⊎ Among p (L post) → Among p (L (behind ++ post)))
              → Among p (G r (below ++ (behind ++ post))) ⊎ Among p (L (below ++ (behind ++ post)))
          go (inl (inl x)) f g = inl (back k i own cs r below (behind ++ post) q s x)
          go (inl (inr (inl x))) f g = inr (f (inl x))
          go (inl (inr (inr x))) f g = inr (f (inr (g (inl x))))
          go (inr x) f g = inr (f (inr (g (inr x))))

  -- where the j-th of some trees stands
  stand_place : (j : ℕ) (ts : Trees) (rows post : List Row) → Stand file ts rows → j < count ts → first_of (skip j (rows ++ post)) ≡ place_at j ts (rows ++ post)
  unfolding Stand skip place_at count
  stand_place j none rows post s h = absurd (omega arith)
  stand_place zero (tree k i own cs rest) rows post s h = refl
  stand_place (suc j) (tree k i own cs rest) rows post (r, below, behind, e, q, s, t) h =
      let f : rows ++ post ≡ r ∷ (below ++ (behind ++ post)) = ap (λ (l : List Row). l ++ post) e ∙ ap (λ (l : List Row). r ∷ l) (append_assoc below behind post) in
      let n : next (r ∷ (below ++ (behind ++ post))) ≡ behind ++ post = ap (λ (l : List Row). next (r ∷ l)) (sym (append_assoc below behind post)) ∙ stand_next file k i own cs r below behind post q s in
      rw (f, n, behind_rows cs r below (behind ++ post) s) (stand_place j rest behind post t (omega arith))

  -- ---- 47

  abbrev next_test : Row → List Row → Bool
  next_test r rows = eqb r.kind 34 && eqb (detail_of (skip 3 rows)) 0

  next_step : (p k i : ℕ) (own : List ℕ) (cs : Trees) (r : Row) (below post : List Row) → IsRow file r k i own cs → Stand file cs below
      → Among p (wrong_at (next_test r (below ++ post)) (first_of (skip 3 (below ++ post)))) → NoNext p k cs (below ++ post)
  next_step p k i own cs r below post o s m =
      let x = wrong-among (next_test r (below ++ post)) (first_of (skip 3 (below ++ post))) p m in
      let y = both (eqb r.kind 34) (eqb (detail_of (skip 3 (below ++ post))) 0) x.0 in
      let k34 : k ≡ 34 = sym o.kind_is ∙ eqb-true r.kind 34 y.0 in
      let four : 3 < count cs = omega (arith, o.page_is k34) in
      (k34, sym (stand_detail file 3 cs below post s four) ∙ eqb-true (detail_of (skip 3 (below ++ post))) 0 y.1, sym (stand_place 3 cs below post s four) ∙ x.1)

  next_back : (p k i : ℕ) (own : List ℕ) (cs : Trees) (r : Row) (below post : List Row) → IsRow file r k i own cs → Stand file cs below
      → NoNext p k cs (below ++ post) → Among p (wrong_at (next_test r (below ++ post)) (first_of (skip 3 (below ++ post))))
  next_back p k i own cs r below post o s (k34, z, e) =
      let four : 3 < count cs = omega (arith, o.page_is k34) in
      let t : next_test r (below ++ post) ≡ true
      = rw (eq-eqb r.kind 34 (o.kind_is ∙ k34), eq-eqb (detail_of (skip 3 (below ++ post))) 0 (stand_detail file 3 cs below post s four ∙ z)) in
      among-wrong (next_test r (below ++ post)) (first_of (skip 3 (below ++ post))) p t (stand_place 3 cs below post s four ∙ e)

  -- a page's rows: its own, and one for each child
  abbrev Four : List Row → Type 0
  Four rows = (a : Row) × (b : Row) × (c : Row) × (d : Row) × (rest : List Row) × (rows ≡ a ∷ b ∷ c ∷ d ∷ rest) × (a.branch ≡ 1) × (b.branch ≡ 1) × (c.branch ≡ 1)

  unfoldable Paged : List Row → Type 0
  Paged [] = Unit {0}
  Paged (r ∷ rows) = (r.kind ≡ 34 → Four rows) × Paged rows

  -- the row of a value without children, before those of the rest
  alone : (k i : ℕ) (own : List ℕ) (cs rest : Trees) (rows : List Row) → Stand file (tree k i own cs rest) rows → size cs ≡ 0
      → (r : Row) × (others : List Row) × (rows ≡ r ∷ others) × (r.branch ≡ 1) × Stand file rest others
  unfolding Stand
  alone k i own cs rest rows (r, below, behind, e, q, s, t) z =
      (r, behind, e ∙ ap (λ (l : List Row). r ∷ (l ++ behind)) (empty below (stand_length file cs below s ∙ z)), q.branch_is ∙ ap suc z, t) where
        empty : (l : List Row) → length l ≡ 0 → l ≡ []
        empty [] e = refl
        empty (x ∷ l) e = absurd (omega arith)

  -- two of them
  two_alone : (k i k₂ i₂ : ℕ) (own own₂ : List ℕ) (cs cs₂ rest : Trees) (rows : List Row) → Stand file (tree k i own cs (tree k₂ i₂ own₂ cs₂ rest)) rows → size cs ≡ 0 → size cs₂ ≡ 0
      → (a : Row) × (b : Row) × (others : List Row) × (rows ≡ a ∷ b ∷ others) × (a.branch ≡ 1) × (b.branch ≡ 1) × Stand file rest others
  two_alone k i k₂ i₂ own own₂ cs cs₂ rest rows s y z =
      let p = alone k i own cs (tree k₂ i₂ own₂ cs₂ rest) rows s y in
      let q = alone k₂ i₂ own₂ cs₂ rest p.1 p.4 z in
      (p.0, q.0, q.1, p.2 ∙ ap (λ (l : List Row). p.0 ∷ l) q.2, p.3, q.3, q.4)

  four_rows : (cs : Trees) (rows post : List Row) → Stand file cs rows → count cs ≡ 4 → size cs ≡ 4 → Four (rows ++ post)
  unfolding count size
  four_rows none rows post s c z = absurd (omega arith)
  four_rows (tree k i own cs none) rows post s c z = absurd (omega arith)
  four_rows (tree k i own cs (tree k₂ i₂ own₂ cs₂ none)) rows post s c z = absurd (omega arith)
  four_rows (tree k i own cs (tree k₂ i₂ own₂ cs₂ (tree k₃ i₃ own₃ cs₃ none))) rows post s c z = absurd (omega arith)
  four_rows (tree k i own cs (tree k₂ i₂ own₂ cs₂ (tree k₃ i₃ own₃ cs₃ (tree k₄ i₄ own₄ cs₄ rest)))) rows post s c z =
      go (two_alone k i k₂ i₂ own own₂ cs cs₂ (tree k₃ i₃ own₃ cs₃ (tree k₄ i₄ own₄ cs₄ rest)) rows s (omega arith) (omega arith)) where
        go : (a : Row) × (b : Row) × (others : List Row) × (rows ≡ a ∷ b ∷ others) × (a.branch ≡ 1) × (b.branch ≡ 1) × Stand file (tree k₃ i₃ own₃ cs₃ (tree k₄ i₄ own₄ cs₄ rest)) others → Four (rows ++ post)
        go (a, b, others, e, x, y, t) = last (two_alone k₃ i₃ k₄ i₄ own₃ own₄ cs₃ cs₄ rest others t (omega arith) (omega arith)) where
          last : (c : Row) × (d : Row) × (more : List Row) × (others ≡ c ∷ d ∷ more) × (c.branch ≡ 1) × (d.branch ≡ 1) × Stand file rest more → Four (rows ++ post)
          last (c, d, more, f, u, v, w) = (a, b, c, d, more ++ post, ap (λ (l : List Row). l ++ post) (e ∙ ap (λ (l : List Row). a ∷ b ∷ l) f), x, y, u)

  stand_whole : (ts : Trees) (rows post : List Row) → Stand file ts rows → Every Flat ts → Paged post → Paged (rows ++ post)
  unfolding Stand Every Paged
  stand_whole none rows post s f w = rw s w
  stand_whole (tree k i own cs rest) rows post (r, below, behind, e, q, s, t) f w =
      let g : rows ++ post ≡ r ∷ (below ++ (behind ++ post)) = ap (λ (l : List Row). l ++ post) e ∙ ap (λ (l : List Row). r ∷ l) (append_assoc below behind post) in
      rw g (
        (λ z. let k34 : k ≡ 34 = sym q.kind_is ∙ z in four_rows cs below (behind ++ post) s (q.page_is k34) (f.0 k34)),
        stand_whole cs below (behind ++ post) s f.1 (stand_whole rest behind post t f.2 w),
      )

  four_place : (rows : List Row) → Four rows → first_of (skip 3 rows) ≡ first_of (drop 3 rows)
  unfolding skip next
  four_place rows (a, b, c, d, rest, e, x, y, z) = rw (e, x, y, z)

  -- the place of the row behind so many
  step_up : (n from to : ℕ) (rows : List Row) → RowsRise from to rows → suc n < length rows → first_of (drop n rows) ≤ first_of (drop (suc n) rows)
  unfolding RowsRise first_of
  step_up n from to [] r h = absurd (omega arith)
  step_up n from to (a ∷ []) r h = absurd (omega arith)
  step_up zero from to (a ∷ b ∷ rows) r h = r.1.0
  step_up (suc n) from to (a ∷ b ∷ rows) r h = step_up n a.first to (b ∷ rows) r.1 (omega arith)

  four_length : (rows : List Row) → Four rows → 4 ≤ length rows
  four_length rows (a, b, c, d, rest, e, x, y, z) = omega (arith, ap length e)

  -- no next stands before the fifth row
  fifth : (q from to : ℕ) (rows : List Row) → Paged rows → RowsRise from to rows → Among q (nextless rows) → (5 ≤ length rows) × (first_of (drop 4 rows) ≤ q)
  unfolding Paged RowsRise nextless Among
  fifth q from to [] w r m = absurd m
  fifth q from to (a ∷ rows) w r m = go (among-append q (wrong_at (next_test a rows) (first_of (skip 3 rows))) (nextless rows) m) (λ x. fifth q a.first to rows w.1 r.1 x) where
    go : Among q (wrong_at (next_test a rows) (first_of (skip 3 rows))) ⊎ Among q (nextless rows) → (Among q (nextless rows) → (5 ≤ length rows) × (first_of (drop 4 rows) ≤ q))
        → (5 ≤ suc (length rows)) × (first_of (drop 3 rows) ≤ q)
    go (inl x) f =
        let y = wrong-among (next_test a rows) (first_of (skip 3 rows)) q x in
        let k = both (eqb a.kind 34) (eqb (detail_of (skip 3 rows)) 0) y.0 in
        let four = w.0 (eqb-true a.kind 34 k.0) in
        let l = four_length rows four in
        let e : first_of (drop 3 rows) ≡ q = sym (four_place rows four) ∙ y.1 in
        (omega arith, omega arith)
    go (inr x) f =
        let y = f x in
        let l = y.0 in
        let u = step_up 3 a.first to rows r.1 (omega arith) in
        let v = y.1 in
        (omega arith, omega arith)

  nextless_least : (from to : ℕ) (rows : List Row) → Paged rows → RowsRise from to rows → Least (nextless rows)
  unfolding Paged RowsRise nextless Least
  nextless_least from to [] w r = tt
  nextless_least from to (a ∷ rows) w r =
      least-wrong (next_test a rows) (first_of (skip 3 rows)) (nextless rows) (λ t q m. low t q (fifth q a.first to rows w.1 r.1 m)) (nextless_least a.first to rows w.1 r.1) where
        low : next_test a rows ≡ true → (q : ℕ) → (5 ≤ length rows) × (first_of (drop 4 rows) ≤ q) → first_of (skip 3 rows) ≤ q
        low t q (l, h) =
            let k = both (eqb a.kind 34) (eqb (detail_of (skip 3 rows)) 0) t in
            let e = four_place rows (w.0 (eqb-true a.kind 34 k.0)) in
            let u = step_up 3 a.first to rows r.1 (omega arith) in
            omega arith

  nextless_one : (r : Row) (rows : List Row) → nextless (r ∷ rows) ≡ wrong_at (next_test r rows) (first_of (skip 3 rows)) ++ nextless rows
  unfolding nextless
  nextless_one r rows = refl

  nextless_only : {A : Type 0} (p : ℕ) → A ⊎ Among p (nextless []) → A
  unfolding nextless Among
  nextless_only p (inl a) = a
  nextless_only p (inr m) = absurd m

  -- 47
  pub nexts-lowest : (ts : Trees) (rows : List Row) (from to : ℕ) → Stand file ts rows → Every Flat ts → RowsRise from to rows
      → Lowest (λ p. Somewhere (NoNext p) ts rows) (first_place (nextless rows))
  unfolding Paged
  nexts-lowest ts rows from to s f r =
      first_lowest (λ p. Somewhere (NoNext p) ts rows) (nextless rows) (nextless_least from to rows (rw (append-nil rows) at (stand_whole ts rows [] s f tt)) r) (λ p m. sound p m) (λ p m. complete p m) where
        sound : (p : ℕ) → Among p (nextless rows) → Somewhere (NoNext p) ts rows
        sound p m = nextless_only p (rw (append-nil rows) at (found_somewhere (λ r rows. wrong_at (next_test r rows) (first_of (skip 3 rows))) nextless nextless_one (NoNext p) p (next_step p) ts rows [] s (rw (append-nil rows) m)))

        complete : (p : ℕ) → Somewhere (NoNext p) ts rows → Among p (nextless rows)
        complete p x = rw (append-nil rows) at (somewhere_found (λ r rows. wrong_at (next_test r rows) (first_of (skip 3 rows))) nextless nextless_one (NoNext p) p (next_back p) ts rows [] s (inl (rw (append-nil rows) x)))

  -- ---- 46

  first_kind : (ts : Trees) (rows : List Row) → Stand file ts rows → (kind_of rows ≡ kind_at 0 ts) × (first_of rows ≡ place_at 0 ts rows)
  unfolding Stand kind_of kind_at first_of place_at
  first_kind none rows s = (rw s, rw s)
  first_kind (tree k i own cs rest) rows (r, below, behind, e, q, s, t) = (rw e q.kind_is, refl)

  pub page-lowest : (ts : Trees) (rows : List Row) → Stand file ts rows → Lowest (λ p. (kind_at 0 ts ≡ 34 → ⊥) × (place_at 0 ts rows ≡ p)) (first_place (no_page rows))
  unfolding no_page wrong_at Lowest
  page-lowest ts rows s = go (eqb (kind_of rows) 34) refl where
    f : (kind_of rows ≡ kind_at 0 ts) × (first_of rows ≡ place_at 0 ts rows)
    f = first_kind ts rows s

    go : (b : Bool) → eqb (kind_of rows) 34 ≡ b → Lowest (λ p. (kind_at 0 ts ≡ 34 → ⊥) × (place_at 0 ts rows ≡ p)) (first_place (wrong_at (not b) (first_of rows)))
    go true e = λ p h. h.0 (sym f.0 ∙ eqb-true (kind_of rows) 34 e)
    go false e = (((λ k. eqb-false (kind_of rows) 34 e (f.0 ∙ k)), sym f.1), λ q h. let x = f.1 in let y = h.1 in omega arith)

  -- the row of a dictionary's key j
  pub record KeyRow (r : Row) (cs : Trees) (rows : List Row) (j : ℕ) : Type 0 where
    pub kind_is : r.kind ≡ kind_at (2 * j) cs
    pub text_is : kind_at (2 * j) cs ≡ 13 → text_of file r ≡ own_at (2 * j) cs
    pub place_is : r.first ≡ place_at (2 * j) cs rows

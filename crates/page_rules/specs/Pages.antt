-- What 46 and 47 say of rows, and the steps of the tests. Assumes nothing.
use Rattle.std.specs.Prelude.{◌≡◌, ◌&&◌, ℕ, suc, ◌<◌, ◌≤◌, eqb, drop, None, Some}
use Rattle.std.proofs.Math.Path.{sym, ap}
use Rattle.std.proofs.Common.{◌∙◌, arith}
use mathlib.Core.List.{List, [], ◌∷◌, ◌++◌}
use borrow.Author.Tests.{eq-eqb, ne_eqb}
use Rattle.laws.specs.Small.{differ}
use Rattle.layout.specs.Rows.{Row}
use Rattle.table.specs.declared.Grid.{Grid}
use Rattle.profile.specs.Offences.{wrong_at, next, skip, kind_of, detail_of, no_page, nextless}
use Rattle.profile.specs.Profile.{first_of}
use Rattle.fault_places.specs.Places.{first_place, fine-none}
use Rattle.used_rows.specs.Held.{word_in, Held, Follows, Skips, Tells, Finds, kind_word, first_word, detail_word, drop_past, drop-row}
use Rattle.used_rows.specs.Steps.{head_kind}

-- the place of what 47 says of the first of some rows
unfoldable pub page_fault : List Row → List ℕ
page_fault [] = []
page_fault (r ∷ rows) = wrong_at (eqb r.kind 34 && eqb (detail_of (skip 3 rows)) 0) (first_of (skip 3 rows))

module _ (g : Grid) (table : List ℕ) (used : ℕ) where
  pub page_first : {k : ℕ} → Tells g table used (λ rows. word_in rows 0 0) k → k ≡ 34 → Finds g table used no_page None
  unfolding no_page wrong_at
  page_first t e rows d =
      let q : kind_of rows ≡ 34 = kind_word rows 0 ∙ sym (t rows d) ∙ e in
      rw (eq-eqb (kind_of rows) 34 q)

  pub other_first : {k f : ℕ} → Tells g table used (λ rows. word_in rows 0 0) k → (k ≡ 34 → ⊥) → Tells g table used (λ rows. word_in rows 0 1) f → Finds g table used no_page (Some f)
  unfolding no_page wrong_at
  other_first t n u rows d =
      let q : kind_of rows ≡ 34 → ⊥ = λ e. n (t rows d ∙ sym (kind_word rows 0) ∙ e) in
      let p : first_of rows ≡ _ = first_word rows 0 ∙ sym (u rows d) in
      rw (ne_eqb (kind_of rows) 34 q, p)

  pub skips-three : (i : ℕ) {a b c : ℕ} → Follows g table used i a → Follows g table used a b → Follows g table used b c → Skips g table used 3 i c
  unfolding skip
  skips-three i x y z = record {
    few = z.few;
    behind = λ rows d. z.behind rows d ∙ ap next (y.behind rows d ∙ ap next (x.behind rows d));
  }

  -- ---- 47

  module _ (row : ℕ) (there : row < used) where
    pub no_page_there : {k : ℕ} → Tells g table used (λ rows. word_in rows row 0) k → (k ≡ 34 → ⊥) → Finds g table used (λ rows. page_fault (drop row rows)) None
    unfolding page_fault wrong_at
    no_page_there t n rows d =
        let e = head_kind g table used row there rows d t in
        rw (e.1, ne_eqb e.0.kind 34 (λ q. n (sym e.2 ∙ q)))

    module _ {k next detail : ℕ} (t : Tells g table used (λ rows. word_in rows row 0) k) (page : k ≡ 34) (s : Skips g table used 3 (suc row) next)
        (u : Tells g table used (λ rows. word_in rows next 5) detail) where
      next_detail : (rows : List Row) → Held g table used rows → detail_of (skip 3 (drop (suc row) rows)) ≡ detail
      next_detail rows d = ap detail_of (sym (s.behind rows d)) ∙ detail_word rows next ∙ sym (u rows d)

      pub next_there : (detail ≡ 0 → ⊥) → Finds g table used (λ rows. page_fault (drop row rows)) None
      unfolding page_fault wrong_at
      next_there n rows d =
          let e = head_kind g table used row there rows d t in
          rw (e.1, eq-eqb e.0.kind 34 (e.2 ∙ page), next_detail rows d, ne_eqb detail 0 n)

      pub next_missing : {first : ℕ} → detail ≡ 0 → Tells g table used (λ rows. word_in rows next 1) first → Finds g table used (λ rows. page_fault (drop row rows)) (Some first)
      unfolding page_fault wrong_at
      next_missing z v rows d =
          let e = head_kind g table used row there rows d t in
          let f : first_of (skip 3 (drop (suc row) rows)) ≡ _ = ap first_of (sym (s.behind rows d)) ∙ first_word rows next ∙ sym (v rows d) in
          rw (e.1, eq-eqb e.0.kind 34 (e.2 ∙ page), next_detail rows d, eq-eqb detail 0 z, f)

    nextless_step : (rows : List Row) → Held g table used rows → nextless (drop row rows) ≡ page_fault (drop row rows) ++ nextless (drop (suc row) rows)
    unfolding nextless page_fault
    nextless_step rows d = let e = drop-row rows row (omega (arith, d.count)) in rw e.1

    pub page-fine : Finds g table used (λ rows. page_fault (drop row rows)) None → (rows : List Row) → Held g table used rows
        → first_place (nextless (drop row rows)) ≡ first_place (nextless (drop (suc row) rows))
    page-fine f rows d = ap first_place (nextless_step rows d ∙ ap (λ (l : List ℕ). l ++ nextless (drop (suc row) rows)) (fine-none (page_fault (drop row rows)) (f rows d)))

    pub page_found : {p : ℕ} → Finds g table used (λ rows. page_fault (drop row rows)) (Some p) → (rows : List Row) → Held g table used rows → Some p ≡ first_place (nextless (drop row rows))
    page_found {p} f rows d = sym (ap first_place (nextless_step rows d) ∙ first_found (page_fault (drop row rows)) (nextless (drop (suc row) rows)) (f rows d)) where
      first_found : (l m : List ℕ) → Some p ≡ first_place l → first_place (l ++ m) ≡ Some p
      first_found [] m e = differ cc
      first_found (q ∷ l) m e = sym e

  pub no_more_pages : (row : ℕ) → used ≤ row → (rows : List Row) → Held g table used rows → first_place (nextless (drop row rows)) ≡ None
  unfolding nextless
  no_more_pages row h rows d = ap (λ (l : List Row). first_place (nextless l)) (drop_past rows row (omega (arith, d.count)))

-- Each of 41 to 44, 46 and 47 is found exactly if its rule is broken. Assumes nothing.
use Rattle.std.proofs.Math.Path.{◌≡◌, refl, sym, ap}
use Rattle.std.proofs.Common.{◌∙◌, arith}
use Rattle.std.specs.Prelude.{Bool, ◌&&◌, ◌||◌, ◌⊎◌, length}
use Rattle.std.proofs.Math.Bool.{true, false, not}
use mathlib.Core.List.{List, [], ◌∷◌, ◌++◌, append_assoc}
use Rattle.std.proofs.Math.Logic.{inl, inr}
use Prim.Native.Nat.{ℕ, zero, suc, ◌+◌, ◌<◌, ◌≤◌}
use Prim.Native.Char.{code}
use Rattle.std.proofs.Math.Dec.{eqb}
use Rattle.std.proofs.Math.ListN.{get_or}
use borrow.Author.Tests.{eqb-true, eqb-false, eq-eqb, ne_eqb}
use Rattle.laws.specs.Small.{differ, neither}
use Rattle.layout.specs.EnumList.{EnumEntry}
use Rattle.layout.specs.Text.{ascii}
use Rattle.layout.specs.Number.{little}
use Rattle.layout.specs.Target.{Target, object}
use Rattle.layout.specs.Tree.{Trees, none, tree, kind_at}
use Rattle.layout.specs.File.{FileTree, header, FileLays}
use Rattle.layout.specs.Rows.{Row}
use Rattle.reading.specs.Seven.{seven_at}
use Rattle.reading.specs.Rules as targets
use Rattle.numbers.specs.Padded.{pad_of}
use Rattle.places.specs.Padding.{padding}
use Rattle.profile.specs.Profile.{Every, Some, id_at, ReadBy, HasNext, first_of}
use Rattle.profile.specs.Stand.{IsRow, Stand}
use Rattle.profile.specs.Offences.{wrong_at, skip, kind_of, detail_of, name_start, other_platform, padded, uses, unused, among, doubled, no_page, nextless}
use Rattle.profile.specs.Keys.{empty_both, none-wrong, right_none, stand_detail}

not_false : (b : Bool) → not b ≡ false → b ≡ true
not_false true e = refl
not_false false e = differ cc

-- ---- 41

module _ (es : List EnumEntry) (ft : FileTree) (file : List ℕ) (w : FileLays es ft file) where
  platform_byte : get_or file 3 0 ≡ ft.platform
  unfolding header ascii little
  platform_byte = ap (λ (l : List ℕ). get_or l 3 0) w.parts

  pub platform-none : other_platform file ≡ [] → ft.platform ≡ code "w"
  unfolding other_platform
  platform-none e =
      let q : get_or file 3 0 ≡ 0x77 = eqb-true (get_or file 3 0) 0x77 (not_false (eqb (get_or file 3 0) 0x77) (none-wrong (not (eqb (get_or file 3 0) 0x77)) 3 e)) in
      sym platform_byte ∙ q

  pub none-platform : ft.platform ≡ code "w" → other_platform file ≡ []
  unfolding other_platform wrong_at
  none-platform e = rw (eq-eqb (get_or file 3 0) 0x77 (platform_byte ∙ e))

-- ---- 42

pub padded-none : (file places : List ℕ) → padded file places ≡ [] → padding file places ≡ 0
unfolding padded padding
padded-none file [] e = refl
padded-none file (at ∷ places) e =
    let pad = pad_of (seven_at file at) at in
    let p = empty_both (wrong_at (not (eqb pad 0)) at) (padded file places) e in
    let z : pad ≡ 0 = eqb-true pad 0 (not_false (eqb pad 0) (none-wrong (not (eqb pad 0)) at p.0)) in
    omega (arith, padded-none file places p.1)

pub none-padded : (file places : List ℕ) → padding file places ≡ 0 → padded file places ≡ []
unfolding padded padding wrong_at
none-padded file [] e = refl
none-padded file (at ∷ places) e =
    let pad = pad_of (seven_at file at) at in
    let z : pad ≡ 0 = omega arith in
    rw (eq-eqb pad 0 z) (none-padded file places (omega arith))

-- ---- 43

-- one of two, or a third: by the first, or by what follows from another
later : {A B C P : Type 0} → A ⊎ P → (P → B ⊎ C) → (A ⊎ B) ⊎ C
later (inl a) f = inl (inl a)
later (inr p) f = then (f p) where
  then : {A B C : Type 0} → B ⊎ C → (A ⊎ B) ⊎ C
  then (inl b) = inl (inr b)
  then (inr c) = inr c

one_further : {X A C : Type 0} → A ⊎ C → (X ⊎ A) ⊎ C
one_further (inl a) = inl (inr a)
one_further (inr c) = inr c

module _ (file : List ℕ) (i : ℕ) where
  pub uses-some : (ts : Trees) (rows post : List Row) → Stand file ts rows → uses (suc i) (rows ++ post) ≡ true → Some (ReadBy i) ts ⊎ (uses (suc i) post ≡ true)
  unfolding Stand Some uses
  uses-some none rows post s e = inr (rw s at e)
  uses-some (tree k d own cs rest) rows post (r, below, behind, q, o, s, t) e =
      let e₁ : ((eqb r.detail (suc i) && not (eqb r.kind 36)) || uses (suc i) (below ++ (behind ++ post))) ≡ true = rw (q, append_assoc below behind post) at e in
      go (eqb r.detail (suc i)) (eqb r.kind 36) refl refl e₁ (λ f. one_further (later (uses-some cs below (behind ++ post) s f) (λ g. uses-some rest behind post t g))) where
        go : {R : Type 0} (u v : Bool) → eqb r.detail (suc i) ≡ u → eqb r.kind 36 ≡ v → ((u && not v) || uses (suc i) (below ++ (behind ++ post))) ≡ true
            → (uses (suc i) (below ++ (behind ++ post)) ≡ true → (ReadBy i k d own cs ⊎ R) ⊎ (uses (suc i) post ≡ true))
            → (ReadBy i k d own cs ⊎ R) ⊎ (uses (suc i) post ≡ true)
        go true false a b f others = inl (inl (sym o.detail_is ∙ eqb-true r.detail (suc i) a, λ n. eqb-false r.kind 36 b (o.kind_is ∙ n)))
        go true true a b f others = others f
        go false v a b f others = others f

pub or_right : (a b : Bool) → b ≡ true → (a || b) ≡ true
or_right true b e = refl
or_right false b e = e

module _ (file : List ℕ) (i : ℕ) where
  later_uses : (rows post : List Row) → uses (suc i) post ≡ true → uses (suc i) (rows ++ post) ≡ true
  unfolding uses
  later_uses [] post e = e
  later_uses (r ∷ rows) post e = or_right (eqb r.detail (suc i) && not (eqb r.kind 36)) (uses (suc i) (rows ++ post)) (later_uses rows post e)

  pub some-uses : (ts : Trees) (rows post : List Row) → Stand file ts rows → Some (ReadBy i) ts → uses (suc i) (rows ++ post) ≡ true
  unfolding Stand Some uses
  some-uses none rows post s a = absurd a
  some-uses (tree k d own cs rest) rows post (r, below, behind, q, o, s, t) (inl a) =
      rw (q, eq-eqb r.detail (suc i) (o.detail_is ∙ a.0), ne_eqb r.kind 36 (λ n. a.1 (sym o.kind_is ∙ n)))
  some-uses (tree k d own cs rest) rows post (r, below, behind, q, o, s, t) (inr (inl a)) =
      rw (q, append_assoc below behind post) (or_right (eqb r.detail (suc i) && not (eqb r.kind 36)) (uses (suc i) (below ++ (behind ++ post))) (some-uses cs below (behind ++ post) s a))
  some-uses (tree k d own cs rest) rows post (r, below, behind, q, o, s, t) (inr (inr a)) =
      rw (q, append_assoc below behind post) (or_right (eqb r.detail (suc i) && not (eqb r.kind 36)) (uses (suc i) (below ++ (behind ++ post))) (later_uses below (behind ++ post) (some-uses rest behind post t a)))

module _ (file : List ℕ) (rows : List Row) where
  pub unused-none : (n from : ℕ) → unused file rows n from ≡ [] → (i : ℕ) → from ≤ i → i < from + n → uses (suc i) rows ≡ true
  unfolding unused
  unused-none zero from e i g h = absurd (omega arith)
  unused-none (suc n) from e i g h =
      let p = empty_both (wrong_at (not (uses (suc from) rows)) (name_start file from)) (unused file rows n (suc from)) e in
      go (eqb i from) refl (not_false (uses (suc from) rows) (none-wrong (not (uses (suc from) rows)) (name_start file from) p.0))
      (λ m. unused-none n (suc from) p.1 i (omega arith) (omega arith)) where
        go : (b : Bool) → eqb i from ≡ b → uses (suc from) rows ≡ true → (suc from ≤ i → uses (suc i) rows ≡ true) → uses (suc i) rows ≡ true
        go true q u f = let z = eqb-true i from q in rw z u
        go false q u f = f (omega (arith, eqb-false i from q))

  pub none-unused : (n from : ℕ) → ((i : ℕ) → from ≤ i → i < from + n → uses (suc i) rows ≡ true) → unused file rows n from ≡ []
  unfolding unused wrong_at
  none-unused zero from f = refl
  none-unused (suc n) from f = rw (f from (omega arith) (omega arith)) (none-unused n (suc from) (λ i g h. f i (omega arith) (omega arith)))

-- ---- 44

unfoldable pub Other : Target → List Target → Type 0
Other t [] = Unit {0}
Other t (u ∷ l) = (t ≡ u → ⊥) × Other t l

unfoldable pub AllOther : List Target → Type 0
AllOther [] = Unit {0}
AllOther (t ∷ l) = Other t l × AllOther l

unfoldable pub SeenOther : (seen l : List Target) → Type 0
SeenOther [] l = Unit {0}
SeenOther (t ∷ seen) l = Other t l × SeenOther seen l

seen_none : (seen : List Target) → SeenOther seen []
unfolding SeenOther Other
seen_none [] = tt
seen_none (t ∷ seen) = (tt, seen_none seen)

among_no : (t : Target) (seen l : List Target) → among t seen ≡ false → SeenOther seen l → SeenOther seen (t ∷ l)
unfolding among SeenOther Other
among_no t [] l e s = tt
among_no t (u ∷ seen) l e s =
    let p = neither (targets.same u t) (among t seen) e in
    (((λ q. let f : true ≡ false = sym (targets.same_refl t) ∙ rw q at p.0 in let z : ◌≡◌ {A = ℕ} 0 1 = cc in omega arith), s.0), among_no t seen l p.1 s.1)

no_among : (t : Target) (seen l : List Target) → SeenOther seen (t ∷ l) → (among t seen ≡ false) × SeenOther seen l
unfolding among SeenOther Other
no_among t [] l s = (refl, tt)
no_among t (u ∷ seen) l s =
    let p = no_among t seen l s.1 in
    (go (targets.same u t) refl p.0, (s.0.1, p.1)) where
      go : (b : Bool) → targets.same u t ≡ b → among t seen ≡ false → (b || among t seen) ≡ false
      go true q f = absurd (s.0.0 (targets.same_true u t q))
      go false q f = f

pub doubled-none : (file : List ℕ) (seen readers : List Target) (i : ℕ) → doubled file seen readers i ≡ [] → SeenOther seen readers × AllOther readers
unfolding doubled AllOther SeenOther
doubled-none file seen [] i e = (seen_none seen, tt)
doubled-none file seen (t ∷ readers) i e =
    let p = empty_both (wrong_at (among t seen) (name_start file i)) (doubled file (t ∷ seen) readers (suc i)) e in
    let b = doubled-none file (t ∷ seen) readers (suc i) p.1 in
    (among_no t seen readers (none-wrong (among t seen) (name_start file i) p.0) b.0.1, (b.0.0, b.1))

pub none-doubled : (file : List ℕ) (seen readers : List Target) (i : ℕ) → SeenOther seen readers → AllOther readers → doubled file seen readers i ≡ []
unfolding doubled AllOther SeenOther
none-doubled file seen [] i s a = refl
none-doubled file seen (t ∷ readers) i s a =
    let p = no_among t seen readers s in
    rw (right_none (among t seen) (name_start file i) p.0) (none-doubled file (t ∷ seen) readers (suc i) (a.0, p.1) a.1)

abbrev pub Distinct : List Target → Type 0
Distinct l = (i j : ℕ) → i < j → j < length l → get_or l i object ≡ get_or l j object → ⊥

other_at : (t : Target) (l : List Target) (j : ℕ) → Other t l → j < length l → t ≡ get_or l j object → ⊥
unfolding Other
other_at t [] j o h = absurd (omega arith)
other_at t (u ∷ l) zero o h = o.0
other_at t (u ∷ l) (suc j) o h = other_at t l j o.1 (omega arith)

pub all_distinct : (l : List Target) → AllOther l → Distinct l
unfolding AllOther
all_distinct [] a i j g h = absurd (omega arith)
all_distinct (t ∷ l) a i zero g h = absurd (omega arith)
all_distinct (t ∷ l) a zero (suc j) g h = other_at t l j a.0 (omega arith)
all_distinct (t ∷ l) a (suc i) (suc j) g h = all_distinct l a.1 i j (omega arith) (omega arith)

at_other : (t : Target) (l : List Target) → ((j : ℕ) → j < length l → t ≡ get_or l j object → ⊥) → Other t l
unfolding Other
at_other t [] f = tt
at_other t (u ∷ l) f = (f 0 (omega arith), at_other t l (λ j h. f (suc j) (omega arith)))

pub distinct_all : (l : List Target) → Distinct l → AllOther l
unfolding AllOther
distinct_all [] d = tt
distinct_all (t ∷ l) d = (at_other t l (λ j h. d 0 (suc j) (omega arith) (omega arith)), distinct_all l (λ i j g h. d (suc i) (suc j) (omega arith) (omega arith)))

-- ---- 46

module _ (file : List ℕ) where
  first_kind : (ts : Trees) (rows : List Row) → Stand file ts rows → kind_of rows ≡ kind_at 0 ts
  unfolding Stand kind_of kind_at
  first_kind none rows s = rw s
  first_kind (tree k i own cs rest) rows (r, below, behind, e, q, s, t) = rw e q.kind_is

  pub page-none : (ts : Trees) (rows : List Row) → Stand file ts rows → no_page rows ≡ [] → kind_at 0 ts ≡ 34
  unfolding no_page
  page-none ts rows s e =
      sym (first_kind ts rows s) ∙ eqb-true (kind_of rows) 34 (not_false (eqb (kind_of rows) 34) (none-wrong (not (eqb (kind_of rows) 34)) (first_of rows) e))

  pub none-page : (ts : Trees) (rows : List Row) → Stand file ts rows → kind_at 0 ts ≡ 34 → no_page rows ≡ []
  unfolding no_page wrong_at
  none-page ts rows s e = rw (eq-eqb (kind_of rows) 34 (first_kind ts rows s ∙ e))

  -- ---- 47

  -- the next of a page
  page_next : (k i : ℕ) (own : List ℕ) (cs : Trees) (r : Row) (below post : List Row) → IsRow file r k i own cs → Stand file cs below → k ≡ 34 → detail_of (skip 3 (below ++ post)) ≡ id_at 3 cs
  page_next k i own cs r below post q s e = stand_detail file 3 cs below post s (omega (arith, q.page_is e))

  pub nextless-none : (ts : Trees) (rows post : List Row) → Stand file ts rows → nextless (rows ++ post) ≡ [] → Every HasNext ts × (nextless post ≡ [])
  unfolding Stand Every nextless
  nextless-none none rows post s e = (tt, rw s at e)
  nextless-none (tree k i own cs rest) rows post (r, below, behind, q, o, s, t) e =
      let after = below ++ (behind ++ post) in
      let test = eqb r.kind 34 && eqb (detail_of (skip 3 after)) 0 in
      let e₁ : wrong_at test (first_of (skip 3 after)) ++ nextless after ≡ [] = rw (q, append_assoc below behind post) at e in
      let p = empty_both (wrong_at test (first_of (skip 3 after))) (nextless after) e₁ in
      let a = nextless-none cs below (behind ++ post) s p.1 in
      let b = nextless-none rest behind post t a.1 in (
        (
          (λ d z. let f : test ≡ false = none-wrong test (first_of (skip 3 after)) p.0 in
              let g : true ≡ false = rw (eq-eqb r.kind 34 (o.kind_is ∙ d), eq-eqb (detail_of (skip 3 after)) 0 (page_next k i own cs r below (behind ++ post) o s d ∙ z)) at f in
              let z : ◌≡◌ {A = ℕ} 0 1 = cc in omega arith),
          a.0,
          b.0,
        ),
        b.1,
      )

  pub none-nextless : (ts : Trees) (rows post : List Row) → Stand file ts rows → Every HasNext ts → nextless post ≡ [] → nextless (rows ++ post) ≡ []
  unfolding Stand Every nextless
  none-nextless none rows post s d e = rw s e
  none-nextless (tree k i own cs rest) rows post (r, below, behind, q, o, s, t) d e =
      let after = below ++ (behind ++ post) in
      let b = none-nextless rest behind post t d.2 e in
      let a = none-nextless cs below (behind ++ post) s d.1 b in
      let f : (eqb r.kind 34 && eqb (detail_of (skip 3 after)) 0) ≡ false = go (eqb r.kind 34) (eqb (detail_of (skip 3 after)) 0) refl refl in
      rw (q, append_assoc below behind post, right_none (eqb r.kind 34 && eqb (detail_of (skip 3 after)) 0) (first_of (skip 3 after)) f) a where
        go : (u v : Bool) → eqb r.kind 34 ≡ u → eqb (detail_of (skip 3 (below ++ (behind ++ post)))) 0 ≡ v → (u && v) ≡ false
        go false v x y = refl
        go true false x y = refl
        go true true x y =
            let k34 : k ≡ 34 = sym o.kind_is ∙ eqb-true r.kind 34 x in
            absurd (d.0 k34 (sym (page_next k i own cs r below (behind ++ post) o s k34) ∙ eqb-true (detail_of (skip 3 (below ++ (behind ++ post)))) 0 y))

-- Matching bytes that lie in ranges, one of several rows of ranges. Assumes nothing.
use Rattle.std.specs.Prelude.{◌≡◌, refl, Bool, true, false, ◌&&◌, cond, List, [], ◌∷◌, ◌++◌, ◌⊎◌, ℕ, suc, ◌≤◌, leb, ltb, take}
use Rattle.std.proofs.Common.{sym, ap, ◌∙◌, inl, inr, arith, leb-true, le-leb, ltb-true}
use Rattle.laws.specs.Small.{both}
use Rattle.layout.specs.Number.{between}
use Rattle.xml_layout.specs.First.{Begins}
use Rattle.xml_reading.specs.Match.{Match, fails, takes, Disagrees, Told, failed, taken, Matches, or_else, or_matches}

-- from a least to a greatest byte
abbrev pub Range : Type 0
Range = ℕ × ℕ

-- bytes that lie in ranges, one in each
unfoldable pub InRanges : List Range → List ℕ → Type 0
InRanges [] [] = Unit {0}
InRanges [] (b ∷ t) = ⊥
InRanges (r ∷ rs) [] = ⊥
InRanges (r ∷ rs) (b ∷ t) = (r.0 ≤ b) × (b ≤ r.1) × InRanges rs t

abbrev pub Row : List Range → List ℕ → List ℕ → Type 0
Row rs t bs = InRanges rs t × (bs ≡ t)

-- no range is empty
unfoldable pub Open : List Range → Type 0
Open [] = Unit {0}
Open (r ∷ rs) = (r.0 ≤ r.1) × Open rs

unfoldable pub one_more : Bool → ℕ → Match (List ℕ) → Match (List ℕ)
one_more false b m = fails 0
one_more true b (fails n) = fails (suc n)
one_more true b (takes t rest) = takes (b ∷ t) rest

unfoldable pub ranges : List Range → List ℕ → Match (List ℕ)
ranges [] l = takes [] l
ranges (r ∷ rs) [] = fails 0
ranges (r ∷ rs) (b ∷ l) = one_more (between r.0 r.1 b) b (ranges rs l)

-- the least bytes of each range
unfoldable pub lowest : List Range → List ℕ
lowest [] = []
lowest (r ∷ rs) = r.0 ∷ lowest rs

lowest_in : (rs : List Range) → Open rs → InRanges rs (lowest rs)
unfolding Open lowest InRanges
lowest_in [] o = tt
lowest_in (r ∷ rs) o = (omega arith, o.0, lowest_in rs o.1)

is_between : (low high b : ℕ) → low ≤ b → b ≤ high → between low high b ≡ true
is_between low high b p q = rw (le-leb low b p, le-leb b high q)

ranges-complete : (rs : List Range) (t rest : List ℕ) → InRanges rs t → ranges rs (t ++ rest) ≡ takes t rest
unfolding InRanges ranges one_more
ranges-complete [] [] rest f = refl
ranges-complete [] (b ∷ t) rest f = absurd f
ranges-complete (r ∷ rs) [] rest f = absurd f
ranges-complete (r ∷ rs) (b ∷ t) rest f = rw (is_between r.0 r.1 b f.0 f.1, ranges-complete rs t rest f.2)

begins_low : (rs : List Range) → Open rs → Begins (Row rs) []
begins_low rs o = record { value = lowest rs; form = lowest rs; more = lowest rs; lays = (lowest_in rs o, refl); parts = refl }

cons_first : {x y : ℕ} {l m : List ℕ} → x ∷ l ≡ y ∷ m → x ≡ y
cons_first e = cc

cons_rest : {x y : ℕ} {l m : List ℕ} → x ∷ l ≡ y ∷ m → l ≡ m
cons_rest e = cc

-- a form of a row that begins with a byte
row_first : (r : Range) (rs : List Range) (t form rest more : List ℕ) (b : ℕ) → Row (r ∷ rs) t form → form ++ rest ≡ b ∷ more
    → (r.0 ≤ b) × (b ≤ r.1) × ((u : List ℕ) × InRanges rs u × (u ++ rest ≡ more))
unfolding InRanges
row_first r rs [] form rest more b f e = absurd f.0
row_first r rs (x ∷ t) form rest more b f e =
    let q : x ∷ (t ++ rest) ≡ b ∷ more = ap (λ (l : List ℕ). l ++ rest) (sym f.1) ∙ e in
    let p : x ≡ b = cons_first q in
    (omega (arith, f.0.0), omega (arith, f.0.1), (t, f.0.2, cons_rest q))

not_between : (low high b : ℕ) → between low high b ≡ false → low ≤ b → b ≤ high → ⊥
not_between low high b q g h = let z : true ≡ false = sym (is_between low high b g h) ∙ q in let y : ◌≡◌ {A = ℕ} 0 1 = cc in absurd (omega arith)

more-tells : (r : Range) (rs : List Range) (b : ℕ) (l : List ℕ) → Open (r ∷ rs) → (t : Bool) → between r.0 r.1 b ≡ t → (m : Match (List ℕ)) → Told (Row rs) l m
    → Told (Row (r ∷ rs)) (b ∷ l) (one_more t b m)
unfolding one_more Disagrees InRanges
more-tells r rs b l o false q m told = failed {n = 0} (record {
  within = omega arith;
  begins = begins_low (r ∷ rs) o;
  no_more = λ h t form rest more f e. let w = row_first r rs t form rest more b f e in not_between r.0 r.1 b q w.0 w.1;
})
more-tells r rs b l o true q m (failed {n = n} g) =
    let p = both (leb r.0 b) (leb b r.1) q in
    let v = g.begins in
    failed {n = suc n} (record {
      within = omega (arith, g.within);
      begins = record {
        value = b ∷ v.value;
        form = b ∷ v.form;
        more = v.more;
        lays = ((leb-true r.0 b p.0, leb-true b r.1 p.1, v.lays.0), ap (λ (l : List ℕ). b ∷ l) v.lays.1);
        parts = ap (λ (l : List ℕ). b ∷ l) v.parts;
      };
      no_more = λ h t form rest more f e.
          let w = row_first r rs t form rest (take (suc n) l ++ more) b f e in
          g.no_more (omega arith) w.2.0 w.2.0 rest more (w.2.1, refl) w.2.2;
    })
more-tells r rs b l o true q m (taken {a = t} form f e) =
    let p = both (leb r.0 b) (leb b r.1) q in
    taken {a = b ∷ t} (b ∷ form) ((leb-true r.0 b p.0, leb-true b r.1 p.1, f.0), ap (λ (l : List ℕ). b ∷ l) f.1) (ap (λ (l : List ℕ). b ∷ l) e)

ranges-tells : (rs : List Range) (l : List ℕ) → Open rs → Told (Row rs) l (ranges rs l)
unfolding ranges Open InRanges
ranges-tells [] l o = taken {a = []} [] (tt, refl) refl
ranges-tells (r ∷ rs) [] o = failed {n = 0} (record { within = omega arith; begins = begins_low (r ∷ rs) o; no_more = λ h. absurd (omega arith) })
ranges-tells (r ∷ rs) (b ∷ l) o = more-tells r rs b l o (between r.0 r.1 b) refl (ranges rs l) (ranges-tells rs l o.1)

pub ranges-matches : (rs : List Range) → Open rs → Matches (Row rs) (ranges rs)
ranges-matches rs o = record {
  complete = λ t form rest f. rw f.1 (ranges-complete rs t rest f.0);
  tells = λ l. ranges-tells rs l o;
}

-- ---- One of several rows

-- a row or one of the others
unfoldable pub AnyOf : (r : List Range) → List (List Range) → List ℕ → List ℕ → Type 0
AnyOf r [] t bs = Row r t bs
AnyOf r (s ∷ rows) t bs = Row r t bs ⊎ AnyOf s rows t bs

unfoldable pub any_of : (r : List Range) → List (List Range) → List ℕ → Match (List ℕ)
any_of r [] l = ranges r l
any_of r (s ∷ rows) l = or_else (ranges r l) (any_of s rows l)

unfoldable pub is_open : List Range → Bool
is_open [] = true
is_open (r ∷ rs) = leb r.0 r.1 && is_open rs

-- whether some byte can't be in both rows
unfoldable pub disjoint : List Range → List Range → Bool
disjoint [] ss = false
disjoint (r ∷ rs) [] = false
disjoint (r ∷ rs) (s ∷ ss) = cond (ltb r.1 s.0) true (cond (ltb s.1 r.0) true (disjoint rs ss))

unfoldable pub from_all : List Range → List (List Range) → Bool
from_all r [] = true
from_all r (s ∷ rows) = disjoint r s && from_all r rows

-- whether no range is empty and no two rows agree
unfoldable pub sorted : (r : List Range) → List (List Range) → Bool
sorted r [] = is_open r
sorted r (s ∷ rows) = is_open r && (from_all r (s ∷ rows) && sorted s rows)

open_true : (rs : List Range) → is_open rs ≡ true → Open rs
unfolding is_open Open
open_true [] q = tt
open_true (r ∷ rs) q = let p = both (leb r.0 r.1) (is_open rs) q in (leb-true r.0 r.1 p.0, open_true rs p.1)

disjoint-apart : (rs ss : List Range) (t u x y : List ℕ) → disjoint rs ss ≡ true → InRanges rs t → InRanges ss u → t ++ x ≡ u ++ y → ⊥
unfolding disjoint InRanges
disjoint-apart [] ss t u x y q f g e = let z : ◌≡◌ {A = ℕ} 0 1 = cc q in absurd (omega arith)
disjoint-apart (r ∷ rs) [] t u x y q f g e = let z : ◌≡◌ {A = ℕ} 0 1 = cc q in absurd (omega arith)
disjoint-apart (r ∷ rs) (s ∷ ss) [] u x y q f g e = absurd f
disjoint-apart (r ∷ rs) (s ∷ ss) (b ∷ t) [] x y q f g e = absurd g
disjoint-apart (r ∷ rs) (s ∷ ss) (b ∷ t) (c ∷ u) x y q f g e =
    go (ltb r.1 s.0) (ltb s.1 r.0) refl refl q (λ p. disjoint-apart rs ss t u x y p f.2 g.2 (cons_rest e)) where
      same : b ≡ c
      same = cons_first e

      go : (v w : Bool) → ltb r.1 s.0 ≡ v → ltb s.1 r.0 ≡ w → cond v true (cond w true (disjoint rs ss)) ≡ true → (disjoint rs ss ≡ true → ⊥) → ⊥
      go true w ev ew p k = absurd (omega (arith, ltb-true r.1 s.0 ev, f.1, g.0, same))
      go false true ev ew p k = absurd (omega (arith, ltb-true s.1 r.0 ew, f.0, g.1, same))
      go false false ev ew p k = k p

all_apart : (r s : List Range) (rows : List (List Range)) → from_all r (s ∷ rows) ≡ true → (a b form other rest more : List ℕ)
    → Row r a form → AnyOf s rows b other → form ++ rest ≡ other ++ more → ⊥
unfolding from_all AnyOf
all_apart r s [] q a b form other rest more f g e =
    disjoint-apart r s a b rest more (both (disjoint r s) true q).0 f.0 g.0 (ap (λ (l : List ℕ). l ++ rest) (sym f.1) ∙ e ∙ ap (λ (l : List ℕ). l ++ more) g.1)
all_apart r s (s' ∷ rows) q a b form other rest more f (inl g) e =
    disjoint-apart r s a b rest more (both (disjoint r s) (from_all r (s' ∷ rows)) q).0 f.0 g.0 (ap (λ (l : List ℕ). l ++ rest) (sym f.1) ∙ e ∙ ap (λ (l : List ℕ). l ++ more) g.1)
all_apart r s (s' ∷ rows) q a b form other rest more f (inr g) e = all_apart r s' rows (both (disjoint r s) (from_all r (s' ∷ rows)) q).1 a b form other rest more f g e

pub any_matches : (r : List Range) (rows : List (List Range)) → sorted r rows ≡ true → Matches (AnyOf r rows) (any_of r rows)
unfolding sorted AnyOf any_of
any_matches r [] q = ranges-matches r (open_true r q)
any_matches r (s ∷ rows) q =
    let p = both (is_open r) (from_all r (s ∷ rows) && sorted s rows) q in
    let p' = both (from_all r (s ∷ rows)) (sorted s rows) p.1 in
    or_matches (ranges-matches r (open_true r p.0)) (any_matches s rows p'.1) (all_apart r s rows p'.0)

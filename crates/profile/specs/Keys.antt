-- The keys of a dictionary by their rows, and when none is repeated. Assumes nothing.
use Rattle.std.proofs.Math.Path.{◌≡◌, refl, sym, ap}
use Rattle.std.proofs.Common.{◌∙◌}
use Rattle.std.specs.Prelude.{Bool, ◌&&◌, get_or}
use Rattle.std.proofs.Math.Bool.{true, false, cond}
use mathlib.Core.List.{List, [], ◌∷◌, ◌++◌, append_assoc, append-nil}
use Prim.Native.Nat.{ℕ, zero, suc, ◌+◌, ◌*◌, ◌/◌, ◌<◌}
use native.Mathlib.Omega.{arith}
use Rattle.std.proofs.Math.Dec.{eqb}
use Rattle.std.proofs.Math.ListN.{length, length-append}
use Rattle.std.proofs.Math.Seq.{drop-append_seam}
use borrow.Author.Tests.{eqb-true, eq-eqb}
use Rattle.laws.specs.Small.{differ, neither}
use Rattle.layout.specs.Tree.{Trees, none, tree, count, size, kind_at}
use Rattle.layout.specs.Rows.{Row}
use Rattle.reading.specs.Same.{same, same_sound, same_complete}
use Rattle.profile.specs.Profile.{Every, id_at, own_at, DistinctKeys}
use Rattle.profile.specs.Stand.{text_of, IsRow, Stand}
use Rattle.profile.specs.Offences.{wrong_at, next, skip, detail_of, key_rows, twin, repeats, twins, repeated}

-- ---- Lists of places that are empty

pub empty_both : (a b : List ℕ) → a ++ b ≡ [] → (a ≡ []) × (b ≡ [])
empty_both [] b e = (refl, e)
empty_both (x ∷ a) b e = differ cc

pub none-wrong : (b : Bool) (p : ℕ) → wrong_at b p ≡ [] → b ≡ false
unfolding wrong_at
none-wrong true p e = differ cc
none-wrong false p e = refl

pub right_none : (b : Bool) (p : ℕ) → b ≡ false → wrong_at b p ≡ []
unfolding wrong_at
right_none b p e = rw e

-- ---- Rows of trees

module _ (file : List ℕ) where
  pub stand_length : (ts : Trees) (rows : List Row) → Stand file ts rows → length rows ≡ size ts
  unfolding Stand size
  stand_length none rows s = ap length s
  stand_length (tree k i own cs rest) rows (r, below, behind, e, q, s, t) =
      omega (arith, ap length e, length-append below behind, stand_length cs below s, stand_length rest behind t)

  -- behind the first value's rows stand those of the others
  pub stand_next : (k i : ℕ) (own : List ℕ) (cs : Trees) (r : Row) (below behind post : List Row) → IsRow file r k i own cs → Stand file cs below
      → next ((r ∷ (below ++ behind)) ++ post) ≡ behind ++ post
  unfolding next
  stand_next k i own cs r below behind post q s =
      let l : r.branch ≡ suc (length below) = q.branch_is ∙ ap suc (sym (stand_length cs below s)) in
      rw (l, append_assoc below behind post) (drop-append_seam below (behind ++ post))

  -- the detail of the j-th value
  pub stand_detail : (j : ℕ) (ts : Trees) (rows post : List Row) → Stand file ts rows → j < count ts → detail_of (skip j (rows ++ post)) ≡ id_at j ts
  unfolding Stand skip detail_of id_at count
  stand_detail j none rows post s h = absurd (omega arith)
  stand_detail zero (tree k i own cs rest) rows post (r, below, behind, e, q, s, t) h = rw e q.detail_is
  stand_detail (suc j) (tree k i own cs rest) rows post (r, below, behind, e, q, s, t) h =
      rw (e, stand_next k i own cs r below behind post q s) (stand_detail j rest behind post t (omega arith))

-- ---- Keys of a dictionary's children

pub record Key : Type 0 where
  pub kind : ℕ
  pub own : List ℕ

abbrev pub key : (kind : ℕ) (own : List ℕ) → Key
key kind own = record { kind = kind; own = own }

unfoldable pub keys_of : Trees → List Key
keys_of none = []
keys_of (tree k i own cs none) = key k own ∷ []
keys_of (tree k i own cs (tree k' i' own' cs' rest)) = key k own ∷ keys_of rest

-- those at even positions
key_at : (j : ℕ) (cs : Trees) → get_or (keys_of cs) j (key 0 []) ≡ key (kind_at (2 * j) cs) (own_at (2 * j) cs)
unfolding keys_of kind_at own_at
key_at j none = refl
key_at zero (tree k i own cs none) = refl
key_at (suc j) (tree k i own cs none) =
    let z : 2 * suc j ≡ suc (suc (2 * j)) = omega arith in
    rw z
key_at zero (tree k i own cs (tree k' i' own' cs' rest)) = refl
key_at (suc j) (tree k i own cs (tree k' i' own' cs' rest)) =
    let z : 2 * suc j ≡ suc (suc (2 * j)) = omega arith in
    rw z (key_at j rest)

module _ (file : List ℕ) where
  -- the rows of keys
  unfoldable pub Keyed : List Row → List Key → Type 0
  Keyed [] [] = Unit {0}
  Keyed [] (x ∷ xs) = ⊥
  Keyed (r ∷ rs) [] = ⊥
  Keyed (r ∷ rs) (x ∷ xs) = (r.kind ≡ x.kind) × (x.kind ≡ 13 → text_of file r ≡ x.own) × Keyed rs xs

  pub keys_stand : (n : ℕ) (cs : Trees) (rows post : List Row) → Stand file cs rows → n ≡ (count cs + 1) / 2 → Keyed (key_rows n (rows ++ post)) (keys_of cs)
  unfolding Stand count keys_of Keyed key_rows skip
  keys_stand zero none rows post s h = tt
  keys_stand (suc n) none rows post s h = absurd (omega arith)
  keys_stand zero (tree k i own cs none) rows post s h = absurd (omega arith)
  keys_stand (suc (suc n)) (tree k i own cs none) rows post s h = absurd (omega arith)
  keys_stand (suc zero) (tree k i own cs none) rows post (r, below, behind, e, q, s, t) h = rw e (q.kind_is, q.text_is, tt)
  keys_stand zero (tree k i own cs (tree k' i' own' cs' rest)) rows post s h = absurd (omega arith)
  keys_stand (suc n) (tree k i own cs (tree k' i' own' cs' rest)) rows post (r, below, behind, e, q, s, (r', below', behind', e', q', s', t')) h =
      let a = stand_next file k i own cs r below (r' ∷ (below' ++ behind')) post q s in
      let b = stand_next file k' i' own' cs' r' below' behind' post q' s' in
      rw (e, e', a, b) (q.kind_is, q.text_is, keys_stand n rest behind' post t' (omega arith))

-- ---- When no key is repeated

-- two keys that are not Strings of equal bytes
abbrev pub Differ : Key → Key → Type 0
Differ x y = x.kind ≡ 13 → y.kind ≡ 13 → x.own ≡ y.own → ⊥

-- a key and each of some others; each of some keys and those behind it
unfoldable pub Apart : Key → List Key → Type 0
Apart x [] = Unit {0}
Apart x (y ∷ l) = Differ x y × Apart x l

unfoldable pub AllApart : List Key → Type 0
AllApart [] = Unit {0}
AllApart (x ∷ l) = Apart x l × AllApart l

-- each of those seen and each of some others
unfoldable pub SeenApart : (seen l : List Key) → Type 0
SeenApart [] l = Unit {0}
SeenApart (x ∷ seen) l = Apart x l × SeenApart seen l

seen_nothing : (seen : List Key) → SeenApart seen []
unfolding SeenApart Apart
seen_nothing [] = tt
seen_nothing (x ∷ seen) = (tt, seen_nothing seen)

-- each of those seen and one
unfoldable pub SeenDiffer : (seen : List Key) → Key → Type 0
SeenDiffer [] y = Unit {0}
SeenDiffer (x ∷ seen) y = Differ x y × SeenDiffer seen y

seen_join : (seen : List Key) (y : Key) (l : List Key) → SeenDiffer seen y → SeenApart seen l → SeenApart seen (y ∷ l)
unfolding SeenDiffer SeenApart Apart
seen_join [] y l a b = tt
seen_join (x ∷ seen) y l a b = ((a.0, b.0), seen_join seen y l a.1 b.1)

seen-part : (seen : List Key) (y : Key) (l : List Key) → SeenApart seen (y ∷ l) → SeenDiffer seen y × SeenApart seen l
unfolding SeenDiffer SeenApart Apart
seen-part [] y l a = (tt, tt)
seen-part (x ∷ seen) y l a = let p = seen-part seen y l a.1 in ((a.0.0, p.0), (a.0.1, p.1))

module _ (file : List ℕ) where
  abbrev Is : Row → Key → Type 0
  Is r x = (r.kind ≡ x.kind) × (x.kind ≡ 13 → text_of file r ≡ x.own)

  twin_no : (q r : Row) (x y : Key) → Is q x → Is r y → twin file q r ≡ false → Differ x y
  unfolding twin
  twin_no q r x y a b e k l o =
      let u : q.kind ≡ 13 = a.0 ∙ k in
      let v : r.kind ≡ 13 = b.0 ∙ l in
      let t : text_of file q ≡ text_of file r = a.1 k ∙ o ∙ sym (b.1 l) in
      let f : true ≡ false = rw (eq-eqb q.kind 13 u, eq-eqb r.kind 13 v, t, same_complete (text_of file r)) at e in
      let z : ◌≡◌ {A = ℕ} 0 1 = cc in
      omega arith

  no_twin : (q r : Row) (x y : Key) → Is q x → Is r y → Differ x y → twin file q r ≡ false
  unfolding twin
  no_twin q r x y a b d = go (eqb q.kind 13) (eqb r.kind 13) (same (text_of file q) (text_of file r)) refl refl refl where
    go : (u v w : Bool) → eqb q.kind 13 ≡ u → eqb r.kind 13 ≡ v → same (text_of file q) (text_of file r) ≡ w → (u && (v && w)) ≡ false
    go false v w e f g = refl
    go true false w e f g = refl
    go true true false e f g = refl
    go true true true e f g =
        let k : x.kind ≡ 13 = sym a.0 ∙ eqb-true q.kind 13 e in
        let l : y.kind ≡ 13 = sym b.0 ∙ eqb-true r.kind 13 f in
        absurd (d k l (sym (a.1 k) ∙ same_sound (text_of file q) (text_of file r) g ∙ b.1 l))

  repeats_no : (seen : List Row) (xs : List Key) (r : Row) (y : Key) → Keyed file seen xs → Is r y → repeats file seen r ≡ false → SeenDiffer xs y
  unfolding Keyed repeats SeenDiffer
  repeats_no [] [] r y w b e = tt
  repeats_no [] (x ∷ xs) r y w b e = absurd w
  repeats_no (q ∷ seen) [] r y w b e = absurd w
  repeats_no (q ∷ seen) (x ∷ xs) r y w b e =
      let p = neither (twin file q r) (repeats file seen r) e in
      (twin_no q r x y (w.0, w.1) b p.0, repeats_no seen xs r y w.2 b p.1)

  no_repeats : (seen : List Row) (xs : List Key) (r : Row) (y : Key) → Keyed file seen xs → Is r y → SeenDiffer xs y → repeats file seen r ≡ false
  unfolding Keyed repeats SeenDiffer
  no_repeats [] [] r y w b d = refl
  no_repeats [] (x ∷ xs) r y w b d = absurd w
  no_repeats (q ∷ seen) [] r y w b d = absurd w
  no_repeats (q ∷ seen) (x ∷ xs) r y w b d = rw (no_twin q r x y (w.0, w.1) b d.0) (no_repeats seen xs r y w.2 b d.1)

  twins_none : (seen keys : List Row) (xs ys : List Key) → Keyed file seen xs → Keyed file keys ys → twins file seen keys ≡ [] → SeenApart xs ys × AllApart ys
  unfolding Keyed twins AllApart SeenApart
  twins_none seen [] xs [] w v e = (seen_nothing xs, tt)
  twins_none seen [] xs (y ∷ ys) w v e = absurd v
  twins_none seen (r ∷ keys) xs [] w v e = absurd v
  twins_none seen (r ∷ keys) xs (y ∷ ys) w v e =
      let p = empty_both (wrong_at (repeats file seen r) r.first) (twins file (r ∷ seen) keys) e in
      let a = repeats_no seen xs r y w (v.0, v.1) (none-wrong (repeats file seen r) r.first p.0) in
      let b = twins_none (r ∷ seen) keys (y ∷ xs) ys (v.0, v.1, w) v.2 p.1 in
      (seen_join xs y ys a b.0.1, (b.0.0, b.1))

  none_twins : (seen keys : List Row) (xs ys : List Key) → Keyed file seen xs → Keyed file keys ys → SeenApart xs ys → AllApart ys → twins file seen keys ≡ []
  unfolding Keyed twins AllApart SeenApart
  none_twins seen [] xs [] w v a b = refl
  none_twins seen [] xs (y ∷ ys) w v a b = absurd v
  none_twins seen (r ∷ keys) xs [] w v a b = absurd v
  none_twins seen (r ∷ keys) xs (y ∷ ys) w v a b =
      let p = seen-part xs y ys a in
      rw (right_none (repeats file seen r) r.first (no_repeats seen xs r y w (v.0, v.1) p.0))
      (none_twins (r ∷ seen) keys (y ∷ xs) ys (v.0, v.1, w) v.2 (b.0, p.1) b.1)

-- by positions
abbrev pub ByPlace : List Key → Type 0
ByPlace ks = (i j : ℕ) → i < j → Differ (get_or ks i (key 0 [])) (get_or ks j (key 0 []))

apart_at : (x : Key) (l : List Key) (j : ℕ) → Apart x l → Differ x (get_or l j (key 0 []))
unfolding Apart
apart_at x [] j a = λ k m o. omega arith
apart_at x (y ∷ l) zero a = a.0
apart_at x (y ∷ l) (suc j) a = apart_at x l j a.1

pub by_place : (ks : List Key) → AllApart ks → ByPlace ks
unfolding AllApart
by_place [] a i j h = λ k m o. omega arith
by_place (x ∷ l) a i zero h = absurd (omega arith)
by_place (x ∷ l) a zero (suc j) h = apart_at x l j a.0
by_place (x ∷ l) a (suc i) (suc j) h = by_place l a.1 i j (omega arith)

at_apart : (x : Key) (l : List Key) → ((j : ℕ) → Differ x (get_or l j (key 0 []))) → Apart x l
unfolding Apart
at_apart x [] f = tt
at_apart x (y ∷ l) f = (f 0, at_apart x l (λ j. f (suc j)))

pub place_by : (ks : List Key) → ByPlace ks → AllApart ks
unfolding AllApart
place_by [] f = tt
place_by (x ∷ l) f = (at_apart x l (λ j. f 0 (suc j) (omega arith)), place_by l (λ i j h. f (suc i) (suc j) (omega arith)))

-- the same of a dictionary's children
abbrev Distinct : Trees → Type 0
Distinct cs = (i j : ℕ) → i < j → kind_at (2 * i) cs ≡ 13 → kind_at (2 * j) cs ≡ 13 → own_at (2 * i) cs ≡ own_at (2 * j) cs → ⊥

keys-distinct : (cs : Trees) → ByPlace (keys_of cs) → Distinct cs
keys-distinct cs f i j h = rw (key_at i cs, key_at j cs) at (f i j h)

distinct-keys : (cs : Trees) → Distinct cs → ByPlace (keys_of cs)
distinct-keys cs f i j h = rw (key_at i cs, key_at j cs) (f i j h)

-- ---- 45 is found exactly if two keys of a dictionary are Strings of equal bytes

module _ (file : List ℕ) where
  -- the keys of a dictionary with these children
  own_keys : (cs : Trees) (r : Row) (below post : List Row) → r.children ≡ count cs → Stand file cs below → Keyed file (key_rows ((r.children + 1) / 2) (below ++ post)) (keys_of cs)
  own_keys cs r below post c s = keys_stand file ((r.children + 1) / 2) cs below post s (rw c)

  pub repeated-none : (ts : Trees) (rows post : List Row) → Stand file ts rows → repeated file (rows ++ post) ≡ [] → Every DistinctKeys ts × (repeated file post ≡ [])
  unfolding Stand Every repeated Keyed SeenApart
  repeated-none none rows post s e = (tt, rw s at e)
  repeated-none (tree k i own cs rest) rows post (r, below, behind, q, o, s, t) e =
      let keys = key_rows ((r.children + 1) / 2) (below ++ (behind ++ post)) in
      let e₁ : cond (eqb r.kind 19) (twins file [] keys) [] ++ repeated file (below ++ (behind ++ post)) ≡ [] = rw (q, append_assoc below behind post) at e in
      let p = empty_both (cond (eqb r.kind 19) (twins file [] keys) []) (repeated file (below ++ (behind ++ post))) e₁ in
      let a = repeated-none cs below (behind ++ post) s p.1 in
      let b = repeated-none rest behind post t a.1 in (
        (
          λ d. let m : eqb r.kind 19 ≡ true = eq-eqb r.kind 19 (o.kind_is ∙ d) in
              let n : twins file [] keys ≡ [] = rw m at p.0 in
              keys-distinct cs (by_place (keys_of cs) (twins_none file [] keys [] (keys_of cs) tt (own_keys cs r below (behind ++ post) o.children_is s) n).1),
          a.0,
          b.0,
        ),
        b.1,
      )

  pub none-repeated : (ts : Trees) (rows post : List Row) → Stand file ts rows → Every DistinctKeys ts → repeated file post ≡ [] → repeated file (rows ++ post) ≡ []
  unfolding Stand Every repeated Keyed SeenApart
  none-repeated none rows post s d e = rw s e
  none-repeated (tree k i own cs rest) rows post (r, below, behind, q, o, s, t) d e =
      let keys = key_rows ((r.children + 1) / 2) (below ++ (behind ++ post)) in
      let b = none-repeated rest behind post t d.2 e in
      let a = none-repeated cs below (behind ++ post) s d.1 b in
      rw (q, append_assoc below behind post, a) (rw append-nil (go (eqb r.kind 19) refl)) where
        go : (b : Bool) → eqb r.kind 19 ≡ b → cond b (twins file [] (key_rows ((r.children + 1) / 2) (below ++ (behind ++ post)))) [] ≡ []
        go false n = refl
        go true n = none_twins file [] _ [] (keys_of cs) tt (own_keys cs r below (behind ++ post) o.children_is s) tt (place_by (keys_of cs) (distinct-keys cs (d.0 (sym o.kind_is ∙ eqb-true r.kind 19 n))))

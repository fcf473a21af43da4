-- Codes begin with those of one type only, and two runs of codes that agree are of one type. Assumes nothing.
use Rattle.std.specs.Prelude.{◌≡◌, Bool, cond, ℕ, ◌/◌, ◌%◌, ◌<◌, ◌≤◌, eqb, ltb}
use Rattle.std.proofs.Math.Path.{refl, ap}
use Rattle.std.proofs.Common.{sym, ◌∙◌}
use Rattle.std.proofs.Math.Bool.{true, false}
use mathlib.Core.List.{List, [], ◌∷◌, ◌++◌, append_assoc}
use native.Mathlib.Omega.{arith}
use borrow.Author.Tests.{lt-ltb, le-ltb, ltb-true, ltb-false, lt-leb, le-leb, eqb-true, eq-eqb}
use Rattle.laws.specs.Small.{both}
use Rattle.layout.specs.Target.{Target, fixed, char, string, object, texture, texture_2d, sprite_font, page, mesh, mesh_kind, enum, nullable, array, list, dictionary}
use Rattle.layout.specs.Fixed.{sizes}
use Rattle.layout.specs.Named.{Typed, unknown, known, fixed_kind, plain, Lawful}
use Rattle.names.specs.Codes.{alike_then, alike_self}
use Rattle.names.specs.Kind.{node, word, enum_kind}
use Rattle.targets.specs.Code.{head_at, Alone, Before, Coded}
use Rattle.targets.specs.Place.{same_name, same_code}
use Rattle.targets.specs.Word.{word-node, word_kind, word-place, fixed-small, mesh-small, mesh-plain, enum_size, enum_kind_lem}

leaf_of : Typed → Target
leaf_of unknown = object
leaf_of (known t) = t

one_made : (Target → Target) → List Target → List Target
one_made f [] = []
one_made f (t ∷ ts) = f t ∷ ts

two_made : List Target → List Target
two_made [] = []
two_made (t ∷ []) = []
two_made (t ∷ u ∷ ts) = dictionary t u ∷ ts

-- the types that a code makes of those behind it: a type takes its arguments from those that follow it
by_code : (node : ℕ) (name : List ℕ) → List Target → List Target
by_code b h ts =
    cond (ltb b 60) (leaf_of (plain b) ∷ ts) (cond (ltb b 64) (enum h (enum_size b) ∷ ts)
    (cond (eqb b 80) (one_made nullable ts) (cond (eqb b 81) (one_made array ts) (cond (eqb b 82) (one_made list ts) (two_made ts)))))

-- the types that codes make, from the last code to the first
decode : (file : List ℕ) → List ℕ → List Target
decode file [] = []
decode file (w ∷ s) = by_code (w % 256) (head_at file (w / 256)) (decode file s)

module _ (file : List ℕ) where
  decode_alone : (k : ℕ) (t : Target) (ws rest : List ℕ) → k < 60 → plain k ≡ known t → Alone k ws → decode file (ws ++ rest) ≡ t ∷ decode file rest
  unfolding decode by_code leaf_of Alone
  decode_alone k t ws rest s e (p, q) =
      let z : word k 0 p % 256 ≡ k = omega arith in
      rw (q, z, lt-ltb k 60 s, e)

  decode_before : (k : ℕ) (make : Target → Target) (t : Target) (ws rest : List ℕ) → k < 64
      → ((h : List ℕ) (ts : List Target) → by_code (node k 1) h ts ≡ one_made make ts) → Before k (Coded file t) ws
      → ((us : List ℕ) → Coded file t us → decode file (us ++ rest) ≡ t ∷ decode file rest) → decode file (ws ++ rest) ≡ make t ∷ decode file rest
  unfolding decode one_made Before
  decode_before k make t ws rest s b (p, us, q, w) f = rw (q, word-node k 1 p s (omega arith), b (head_at file (word k 1 p / 256)) (decode file (us ++ rest)), f us w)

  decode_code : (t : Target) (ws rest : List ℕ) → Lawful t → Coded file t ws → decode file (ws ++ rest) ≡ t ∷ decode file rest
  unfolding decode by_code one_made two_made Lawful Coded plain fixed_kind sizes
  decode_code (fixed k) ws rest l w = decode_alone k (fixed k) ws rest (fixed-small k l) (rw l) w
  decode_code char ws rest l w = decode_alone 12 char ws rest (omega arith) refl w
  decode_code string ws rest l w = decode_alone 13 string ws rest (omega arith) refl w
  decode_code object ws rest l w = decode_alone 14 object ws rest (omega arith) refl w
  decode_code (enum name z) ws rest l (p, q, h) =
      let e = enum_kind_lem z l in
      let k = enum_kind z in
      let m : word k 0 p % 256 ≡ k = omega (arith, e.1) in
      rw (q, m, word-place k 0 p e.1 (omega arith), le-ltb k 60 e.0, lt-ltb k 64 e.1, h, e.2)
  decode_code (nullable t) ws rest l w = decode_before 16 nullable t ws rest (omega arith) (λ h ts. refl) w (λ us v. decode_code t us rest l v)
  decode_code (array t) ws rest l w = decode_before 17 array t ws rest (omega arith) (λ h ts. refl) w (λ us v. decode_code t us rest l v)
  decode_code (list t) ws rest l w = decode_before 18 list t ws rest (omega arith) (λ h ts. refl) w (λ us v. decode_code t us rest l v)
  decode_code (dictionary k v) ws rest l (p, us, vs, q, w, x) =
      rw (q, word-node 19 2 p (omega arith) (omega arith), append_assoc us vs rest, decode_code k us (vs ++ rest) l.0 w, decode_code v vs rest l.1 x)
  decode_code texture ws rest l w = decode_alone 31 texture ws rest (omega arith) refl w
  decode_code texture_2d ws rest l w = decode_alone 32 texture_2d ws rest (omega arith) refl w
  decode_code sprite_font ws rest l w = decode_alone 33 sprite_font ws rest (omega arith) refl w
  decode_code page ws rest l w = decode_alone 34 page ws rest (omega arith) refl w
  decode_code (mesh m) ws rest l w = decode_alone (mesh_kind m) (mesh m) ws rest (mesh-small m) (mesh-plain m) w

  -- two runs of codes are the same, code by code
  unfoldable pub Pairwise : List ℕ → List ℕ → Type 0
  Pairwise [] [] = Unit {0}
  Pairwise [] (v ∷ us) = ⊥
  Pairwise (w ∷ ws) [] = ⊥
  Pairwise (w ∷ ws) (v ∷ us) = (same_code file w v ≡ true) × Pairwise ws us

  by_name : (b : ℕ) (h g : List ℕ) (ts : List Target) (x y : Bool) → ltb b 60 ≡ x → ltb b 64 ≡ y → (60 ≤ b → b < 64 → h ≡ g) → by_code b h ts ≡ by_code b g ts
  unfolding by_code
  by_name b h g ts true y e d f = rw e
  by_name b h g ts false true e d f = rw (f (ltb-false b 60 e) (ltb-true b 64 d))
  by_name b h g ts false false e d f = rw (e, d)

  name_of : (w v : ℕ) → same_name file w v ≡ true → 60 ≤ w % 256 → w % 256 < 64 → head_at file (w / 256) ≡ head_at file (v / 256)
  unfolding same_name
  name_of w v e l s =
      let k : 60 ≤ w % 64 = omega arith in
      alike_then (head_at file (w / 256)) (head_at file (v / 256)) (rw (le-leb 60 (w % 64) k) at e)

  same_decoded : (w v : ℕ) (ts : List Target) → same_code file w v ≡ true → by_code (w % 256) (head_at file (w / 256)) ts ≡ by_code (v % 256) (head_at file (v / 256)) ts
  unfolding same_code
  same_decoded w v ts e =
      let q = both (eqb (w % 256) (v % 256)) (same_name file w v) e in
      by_name (w % 256) (head_at file (w / 256)) (head_at file (v / 256)) ts (ltb (w % 256) 60) (ltb (w % 256) 64) refl refl (name_of w v q.1)
      ∙ ap (λ (b : ℕ). by_code b (head_at file (v / 256)) ts) (eqb-true (w % 256) (v % 256) q.0)

  pairwise_decoded : (ws us rest : List ℕ) → Pairwise ws us → decode file (ws ++ rest) ≡ decode file (us ++ rest)
  unfolding decode Pairwise
  pairwise_decoded [] [] rest p = refl
  pairwise_decoded [] (v ∷ us) rest p = absurd p
  pairwise_decoded (w ∷ ws) [] rest p = absurd p
  pairwise_decoded (w ∷ ws) (v ∷ us) rest p =
      ap (by_code (w % 256) (head_at file (w / 256))) (pairwise_decoded ws us rest p.1) ∙ same_decoded w v (decode file (us ++ rest)) p.0

  pairwise_append : (ws us xs ys : List ℕ) → Pairwise ws us → Pairwise xs ys → Pairwise (ws ++ xs) (us ++ ys)
  unfolding Pairwise
  pairwise_append [] [] xs ys p q = q
  pairwise_append [] (v ∷ us) xs ys p q = absurd p
  pairwise_append (w ∷ ws) [] xs ys p q = absurd p
  pairwise_append (w ∷ ws) (v ∷ us) xs ys p q = (p.0, pairwise_append ws us xs ys p.1 q)

  -- codes of one kind below 60 and as many arguments, at any two places
  same_word : (k n p q : ℕ) → k < 60 → n < 4 → same_code file (word k n p) (word k n q) ≡ true
  unfolding same_code same_name
  same_word k n p q s f =
      let b : k < 64 = omega arith in
      rw (word-node k n p b f, word-node k n q b f, eq-eqb (node k n) (node k n) refl, word_kind k n p b f, lt-leb 60 k s)

  alone_same : (k : ℕ) (ws us : List ℕ) → k < 60 → Alone k ws → Alone k us → Pairwise ws us
  unfolding Alone Pairwise
  alone_same k ws us s (p, e) (q, d) = rw (e, d) (same_word k 0 p q s (omega arith), tt)

  before_same : (k : ℕ) {A : List ℕ → Type 0} (ws us : List ℕ) → k < 60 → Before k A ws → Before k A us → ((xs ys : List ℕ) → A xs → A ys → Pairwise xs ys) → Pairwise ws us
  unfolding Before Pairwise
  before_same k ws us s (p, xs, e, a) (q, ys, d, b) f = rw (e, d) (same_word k 1 p q s (omega arith), f xs ys a b)

  pub coded_same : (t : Target) (ws us : List ℕ) → Lawful t → Coded file t ws → Coded file t us → Pairwise ws us
  unfolding Lawful Coded Pairwise same_code same_name
  coded_same (fixed k) ws us l w v = alone_same k ws us (fixed-small k l) w v
  coded_same char ws us l w v = alone_same 12 ws us (omega arith) w v
  coded_same string ws us l w v = alone_same 13 ws us (omega arith) w v
  coded_same object ws us l w v = alone_same 14 ws us (omega arith) w v
  coded_same (enum name z) ws us l (p, e, h) (q, d, g) =
      let k = enum_kind z in
      let s : k < 64 = (enum_kind_lem z l).1 in
      let n : 0 < 4 = omega arith in
      rw (
        e,
        d,
        word-node k 0 p s n,
        word-node k 0 q s n,
        eq-eqb (node k 0) (node k 0) refl,
        word_kind k 0 p s n,
        le-leb 60 k (enum_kind_lem z l).0,
        word-place k 0 p s n,
        word-place k 0 q s n,
        h,
        g,
        alike_self name,
      ) (refl, tt)
  coded_same (nullable t) ws us l w v = before_same 16 ws us (omega arith) w v (λ xs ys a b. coded_same t xs ys l a b)
  coded_same (array t) ws us l w v = before_same 17 ws us (omega arith) w v (λ xs ys a b. coded_same t xs ys l a b)
  coded_same (list t) ws us l w v = before_same 18 ws us (omega arith) w v (λ xs ys a b. coded_same t xs ys l a b)
  coded_same (dictionary k x) ws us l (p, xs, ys, e, a, b) (q, vs, zs, d, c, f) =
      rw (e, d) (same_word 19 2 p q (omega arith) (omega arith), pairwise_append xs vs ys zs (coded_same k xs vs l.0 a c) (coded_same x ys zs l.1 b f))
  coded_same texture ws us l w v = alone_same 31 ws us (omega arith) w v
  coded_same texture_2d ws us l w v = alone_same 32 ws us (omega arith) w v
  coded_same sprite_font ws us l w v = alone_same 33 ws us (omega arith) w v
  coded_same page ws us l w v = alone_same 34 ws us (omega arith) w v
  coded_same (mesh m) ws us l w v = alone_same (mesh_kind m) ws us (mesh-small m) w v

  -- the same where the codes of one begin with codes that are the same as the other's
  pub alike_types : (d t : Target) (ws us xs r s : List ℕ) → Lawful d → Lawful t → Coded file d ws → Coded file t us → Pairwise ws xs → xs ++ r ≡ us ++ s → d ≡ t
  alike_types d t ws us xs r s l m w v p e =
      let q : d ∷ decode file r ≡ t ∷ decode file s = sym (decode_code d ws r l w) ∙ pairwise_decoded ws xs r p ∙ ap (decode file) e ∙ decode_code t us s m v in
      cc

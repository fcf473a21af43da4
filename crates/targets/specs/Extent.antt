-- How far a type's codes go, and when they are the same as what stands at another place. Assumes nothing.
use Rattle.std.specs.Prelude.{◌≡◌, Bool, true, false, ◌&&◌, length, get_or}
use Rattle.std.proofs.Math.Path.{refl, ap}
use Rattle.std.proofs.Common.{◌∙◌, length-append}
use mathlib.Core.List.{List, [], ◌∷◌, ◌++◌, append_assoc, append-nil}
use Prim.Native.Nat.{ℕ, zero, suc, ◌+◌, ◌%◌, ◌<◌}
use native.Mathlib.Omega.{arith}
use Rattle.laws.specs.Small.{differ, both}
use Rattle.layout.specs.Named.{Lawful}
use Rattle.layout.specs.Target.{Target, fixed, char, string, object, texture, texture_2d, sprite_font, page, mesh, mesh_kind, enum, nullable, array, list, dictionary}
use Rattle.names.specs.Kind.{word, enum_kind}
use Rattle.targets.specs.Code.{Alone, Before, Coded, code_kind, code_size}
use Rattle.targets.specs.Place.{arity, extent, same_code, agree}
use Rattle.targets.specs.Word.{word_kind, word-arity, fixed-small, mesh-small, enum_kind_lem}
use Rattle.targets.specs.Decode.{Pairwise}

-- the codes of n types, and no more: each code is followed by as many types as it has arguments
Exactly : List ℕ → ℕ → Type 0
Exactly [] n = n ≡ 0
Exactly (w ∷ s) zero = ⊥
Exactly (w ∷ s) (suc n) = Exactly s (n + arity w)

more-code : (k a p n : ℕ) (s : List ℕ) → k < 64 → a < 4 → Exactly s (n + a) → Exactly (word k a p ∷ s) (suc n)
unfolding Exactly
more-code k a p n s b f w = rw (word-arity k a p b f) w

whole-alone : (k : ℕ) (ws : List ℕ) (n : ℕ) (s : List ℕ) → k < 64 → Alone k ws → Exactly s n → Exactly (ws ++ s) (suc n)
unfolding Alone
whole-alone k ws n s b (p, e) w = rw e (more-code k 0 p n s b (omega arith) (let z : n + 0 ≡ n = omega arith in rw z w))

whole_before : (k : ℕ) {A : List ℕ → Type 0} (ws : List ℕ) (n : ℕ) (s : List ℕ) → k < 64 → Before k A ws → ((us : List ℕ) → A us → Exactly (us ++ s) (suc n)) → Exactly (ws ++ s) (suc n)
unfolding Before
whole_before k ws n s b (p, us, e, a) f = rw e (more-code k 1 p n (us ++ s) b (omega arith) (let z : n + 1 ≡ suc n = omega arith in rw z (f us a)))

module _ (file : List ℕ) where
  whole_code : (t : Target) (ws : List ℕ) (n : ℕ) (s : List ℕ) → Lawful t → Coded file t ws → Exactly s n → Exactly (ws ++ s) (suc n)
  unfolding Lawful Coded
  whole_code (fixed k) ws n s l c w = whole-alone k ws n s (omega (arith, fixed-small k l)) c w
  whole_code char ws n s l c w = whole-alone 12 ws n s (omega arith) c w
  whole_code string ws n s l c w = whole-alone 13 ws n s (omega arith) c w
  whole_code object ws n s l c w = whole-alone 14 ws n s (omega arith) c w
  whole_code (enum name z) ws n s l (p, e, h) w = rw e (more-code (enum_kind z) 0 p n s (enum_kind_lem z l).1 (omega arith) (let z : n + 0 ≡ n = omega arith in rw z w))
  whole_code (nullable t) ws n s l c w = whole_before 16 ws n s (omega arith) c (λ us a. whole_code t us n s l a w)
  whole_code (array t) ws n s l c w = whole_before 17 ws n s (omega arith) c (λ us a. whole_code t us n s l a w)
  whole_code (list t) ws n s l c w = whole_before 18 ws n s (omega arith) c (λ us a. whole_code t us n s l a w)
  whole_code (dictionary k v) ws n s l (p, us, vs, e, a, b) w =
      let z : n + 2 ≡ suc (suc n) = omega arith in
      rw e (more-code 19 2 p n ((us ++ vs) ++ s) (omega arith) (omega arith)
      (rw (z, append_assoc us vs s) (whole_code k us (suc n) (vs ++ s) l.0 a (whole_code v vs n s l.1 b w))))
  whole_code texture ws n s l c w = whole-alone 31 ws n s (omega arith) c w
  whole_code texture_2d ws n s l c w = whole-alone 32 ws n s (omega arith) c w
  whole_code sprite_font ws n s l c w = whole-alone 33 ws n s (omega arith) c w
  whole_code page ws n s l c w = whole-alone 34 ws n s (omega arith) c w
  whole_code (mesh m) ws n s l c w = whole-alone (mesh_kind m) ws n s (omega (arith, mesh-small m)) c w

  alone : (t : Target) (ws : List ℕ) → Lawful t → Coded file t ws → Exactly ws 1
  unfolding Exactly
  alone t ws l c = rw (append-nil ws) at (whole_code t ws 0 [] l c refl)

pub no_extent : (s : List ℕ) → extent s 0 ≡ 0
unfolding extent
no_extent [] = refl
no_extent (w ∷ s) = refl

whole-extent : (s rest : List ℕ) (n : ℕ) → Exactly s n → extent (s ++ rest) n ≡ length s
unfolding Exactly extent
whole-extent [] rest n w = rw w (no_extent rest)
whole-extent (b ∷ s) rest zero w = absurd w
whole-extent (b ∷ s) rest (suc n) w = ap suc (whole-extent s rest (n + arity b) w)

module _ (file : List ℕ) where
  pub no_agree : (s u : List ℕ) → agree file s 0 u ≡ true
  unfolding agree
  no_agree [] u = refl
  no_agree (w ∷ s) u = refl

  -- codes that are the same stand first in u
  unfoldable pub starts_same : List ℕ → List ℕ → Bool
  starts_same [] u = true
  starts_same (w ∷ ws) [] = false
  starts_same (w ∷ ws) (v ∷ u) = same_code file w v && starts_same ws u

  -- the codes that stand first in u, and what follows them
  pub record First (ws u : List ℕ) : Type 0 where
    pub first : List ℕ
    pub rest : List ℕ
    pub parts : first ++ rest ≡ u
    pub same : Pairwise file ws first

  pub starts_first : (ws u : List ℕ) → starts_same ws u ≡ true → First ws u
  unfolding starts_same Pairwise
  starts_first [] u e = record { first = []; rest = u; parts = refl; same = tt }
  starts_first (w ∷ ws) [] e = differ cc
  starts_first (w ∷ ws) (v ∷ u) e =
      let q = both (same_code file w v) (starts_same ws u) e in
      let f = starts_first ws u q.1 in
      record { first = v ∷ f.first; rest = f.rest; parts = ap (λ (l : List ℕ). v ∷ l) f.parts; same = (q.0, f.same) }

  pub first_starts : (ws us r : List ℕ) → Pairwise file ws us → starts_same ws (us ++ r) ≡ true
  unfolding starts_same Pairwise
  first_starts [] [] r p = refl
  first_starts [] (v ∷ us) r p = absurd p
  first_starts (w ∷ ws) [] r p = absurd p
  first_starts (w ∷ ws) (v ∷ us) r p = rw (p.0, first_starts ws us r p.1)

  whole_agree : (s rest : List ℕ) (n : ℕ) (u : List ℕ) → Exactly s n → agree file (s ++ rest) n u ≡ starts_same s u
  unfolding Exactly agree starts_same
  whole_agree [] rest n u w = rw w (no_agree rest u)
  whole_agree (b ∷ s) rest zero u w = absurd w
  whole_agree (b ∷ s) rest (suc n) [] w = refl
  whole_agree (b ∷ s) rest (suc n) (d ∷ u) w = ap (λ (x : Bool). same_code file b d && x) (whole_agree s rest (n + arity b) u w)

  module _ (t : Target) (ws rest : List ℕ) (l : Lawful t) (c : Coded file t ws) where
    pub code-extent : extent (ws ++ rest) 1 ≡ length ws
    code-extent = whole-extent ws rest 1 (alone file t ws l c)

    pub code_agree : (u : List ℕ) → agree file (ws ++ rest) 1 u ≡ starts_same ws u
    code_agree u = whole_agree ws rest 1 u (alone file t ws l c)

  alone_kind : (k : ℕ) (ws rest : List ℕ) → k < 64 → Alone k ws → get_or (ws ++ rest) 0 0 % 64 ≡ k
  unfolding Alone
  alone_kind k ws rest b (p, e) = rw e (word_kind k 0 p b (omega arith))

  before_kind : (k p : ℕ) (ws us rest : List ℕ) → k < 64 → ws ≡ word k 1 p ∷ us → get_or (ws ++ rest) 0 0 % 64 ≡ k
  before_kind k p ws us rest b e = rw e (word_kind k 1 p b (omega arith))

  -- the first code of a type has its kind
  pub code_kind_lem : (t : Target) (ws rest : List ℕ) → Lawful t → Coded file t ws → get_or (ws ++ rest) 0 0 % 64 ≡ code_kind t
  unfolding Coded Before Lawful code_kind
  code_kind_lem (fixed k) ws rest l c = alone_kind k ws rest (omega (arith, fixed-small k l)) c
  code_kind_lem char ws rest l c = alone_kind 12 ws rest (omega arith) c
  code_kind_lem string ws rest l c = alone_kind 13 ws rest (omega arith) c
  code_kind_lem object ws rest l c = alone_kind 14 ws rest (omega arith) c
  code_kind_lem (enum name z) ws rest l (p, e, h) = rw e (word_kind (enum_kind z) 0 p (enum_kind_lem z l).1 (omega arith))
  code_kind_lem (nullable t) ws rest l c = before_kind 16 c.0 ws c.1 rest (omega arith) c.2
  code_kind_lem (array t) ws rest l c = before_kind 17 c.0 ws c.1 rest (omega arith) c.2
  code_kind_lem (list t) ws rest l c = before_kind 18 c.0 ws c.1 rest (omega arith) c.2
  code_kind_lem (dictionary k v) ws rest l (p, us, vs, e, a, b) = rw e (word_kind 19 2 p (omega arith) (omega arith))
  code_kind_lem texture ws rest l c = alone_kind 31 ws rest (omega arith) c
  code_kind_lem texture_2d ws rest l c = alone_kind 32 ws rest (omega arith) c
  code_kind_lem sprite_font ws rest l c = alone_kind 33 ws rest (omega arith) c
  code_kind_lem page ws rest l c = alone_kind 34 ws rest (omega arith) c
  code_kind_lem (mesh m) ws rest l c = alone_kind (mesh_kind m) ws rest (omega (arith, mesh-small m)) c

  alone_size : (k : ℕ) (ws : List ℕ) → Alone k ws → length ws ≡ 1
  unfolding Alone
  alone_size k ws (p, e) = rw e

  before_size : (k : ℕ) {A : List ℕ → Type 0} (ws : List ℕ) (m : ℕ) → Before k A ws → ((us : List ℕ) → A us → length us ≡ m) → length ws ≡ suc m
  unfolding Before
  before_size k ws m (p, us, e, a) f = rw e (ap suc (f us a))

  -- a type has as many codes as its size says
  pub code_size_lem : (t : Target) (ws : List ℕ) → Coded file t ws → length ws ≡ code_size t
  unfolding Coded code_size
  code_size_lem (fixed k) ws c = alone_size k ws c
  code_size_lem char ws c = alone_size 12 ws c
  code_size_lem string ws c = alone_size 13 ws c
  code_size_lem object ws c = alone_size 14 ws c
  code_size_lem (enum name z) ws (p, e, h) = rw e
  code_size_lem (nullable t) ws c = before_size 16 ws (code_size t) c (code_size_lem t)
  code_size_lem (array t) ws c = before_size 17 ws (code_size t) c (code_size_lem t)
  code_size_lem (list t) ws c = before_size 18 ws (code_size t) c (code_size_lem t)
  code_size_lem (dictionary k v) ws (p, us, vs, e, a, b) = rw e (ap suc (length-append us vs ∙ (let x = code_size_lem k us a in let y = code_size_lem v vs b in omega arith)))
  code_size_lem texture ws c = alone_size 31 ws c
  code_size_lem texture_2d ws c = alone_size 32 ws c
  code_size_lem sprite_font ws c = alone_size 33 ws c
  code_size_lem page ws c = alone_size 34 ws c
  code_size_lem (mesh m) ws c = alone_size (mesh_kind m) ws c

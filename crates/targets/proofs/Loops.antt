-- Loops over codes. Assumes nothing.
use mathlib.Core.Path.{◌≡◌, refl, sym, ap, ◌∙◌}
use mathlib.Core.Bool.{Bool, true, false, ◌&&◌, ◌||◌, cond}
use mathlib.Core.List.{List, [], ◌∷◌, ◌++◌}
use Prim.Native.Nat.{ℕ, zero, suc, min, ◌+◌, ◌-◌, ◌/◌, ◌%◌, ◌≤◌, ◌<◌}
use native.Mathlib.Omega.{arith}
use lib.Dec.{eqb, leb}
use lib.ListN.{length, take, drop, get_or, set, drop_of_length-le}
use borrow.Author.Tests.{eq-eqb, ne_eqb, le-leb, lt-leb, leb-true, leb-false}
use Rattle.layout.specs.Complaint.{unless}
use Rattle.names.proofs.Laws.{cons_at, rest}
use Rattle.targets.specs.Place.{arity, extent, same_code, agree}
use Rattle.targets.specs.Judge.{listed_kind, head_ok, value_ok, bad_arguments, bad_enum, bad_reader, complaint}
use Rattle.std.specs.Prelude.{Option, Some, None}
use Rattle.std.specs.List.{slice_get}
use Rattle.laws.specs.Small.{differ}
use Rattle.targets.specs.Contract.{enum_word}
use Rattle.targets.specs.Settling.{is_enums, Settles}
use Rattle.targets.specs.Extent.{no_extent, no_agree}

-- where `need` types from i on are still to be passed, and `all` is the place after them
module _ (c : List ℕ) (i need : ℕ) {all : ℕ} (e : all ≡ i + extent (drop i c) need) where
  pub extent-none : need ≡ 0 → i ≡ all
  extent-none z =
      let q : extent (drop i c) need ≡ 0 = ap (extent (drop i c)) z ∙ no_extent (drop i c) in
      omega arith

  pub extent-end : length c ≤ i → i ≡ all
  unfolding extent
  extent-end h =
      let q : extent (drop i c) need ≡ 0 = ap (λ (l : List ℕ). extent l need) (drop_of_length-le c h) in
      omega arith

  pub extent-step : i < length c → (need ≡ 0 → ⊥) → all ≡ i + 1 + extent (drop (i + 1) c) (need - 1 + arity (get_or c i 0))
  unfolding extent
  extent-step h f =
      let z : need ≡ suc (need - 1) = omega arith in
      let q : extent (drop i c) need ≡ suc (extent (drop (i + 1) c) (need - 1 + arity (get_or c i 0))) = ap (λ (l : List ℕ). extent l need) (cons_at c i h) ∙ ap (extent (get_or c i 0 ∷ drop (i + 1) c)) z in
      omega arith

-- where `need` types from i on are still to be compared, and `all` is what comes out
agree-left : (file u : List ℕ) (need : ℕ) → agree file [] need u ≡ eqb need 0
unfolding agree
agree-left file u zero = refl
agree-left file u (suc n) = sym (ne_eqb (suc n) 0 (λ q. omega arith))

agree-right : (file s : List ℕ) (need : ℕ) → agree file s need [] ≡ eqb need 0
unfolding agree
agree-right file [] zero = refl
agree-right file [] (suc n) = sym (ne_eqb (suc n) 0 (λ q. omega arith))
agree-right file (w ∷ s) zero = refl
agree-right file (w ∷ s) (suc n) = sym (ne_eqb (suc n) 0 (λ q. omega arith))

module _ (file s t : List ℕ) (i need : ℕ) {all : Bool} (e : all ≡ agree file (drop i s) need (drop i t)) where
  pub agree-none : need ≡ 0 → true ≡ all
  agree-none z = sym (e ∙ ap (λ (n : ℕ). agree file (drop i s) n (drop i t)) z ∙ no_agree file (drop i s) (drop i t))

  -- one of the two has ended
  pub agree-end : min (length s) (length t) ≤ i → eqb need 0 ≡ all
  agree-end h = go (leb (length s) i) refl where
    go : (b : Bool) → leb (length s) i ≡ b → eqb need 0 ≡ all
    go true q = sym (e ∙ ap (λ (l : List ℕ). agree file l need (drop i t)) (drop_of_length-le s (leb-true (length s) i q)) ∙ agree-left file (drop i t) need)
    go false q =
        let l : length t ≤ i = omega (arith, leb-false (length s) i q) in
        sym (e ∙ ap (agree file (drop i s) need) (drop_of_length-le t l) ∙ agree-right file (drop i s) need)

  module _ (f : need ≡ 0 → ⊥) (h : i < length s) (g : i < length t) where
    compared : all ≡ (same_code file (get_or s i 0) (get_or t i 0) && agree file (drop (i + 1) s) (need - 1 + arity (get_or s i 0)) (drop (i + 1) t))
    unfolding agree
    compared =
        let z : need ≡ suc (need - 1) = omega (arith, f) in
        e ∙ rw (cons_at s i h, cons_at t i g) (ap (λ (n : ℕ). agree file (get_or s i 0 ∷ drop (i + 1) s) n (get_or t i 0 ∷ drop (i + 1) t)) z)

    pub agree_no : same_code file (get_or s i 0) (get_or t i 0) ≡ false → false ≡ all
    agree_no d = sym (compared ∙ rw d)

    pub agree-step : same_code file (get_or s i 0) (get_or t i 0) ≡ true → all ≡ agree file (drop (i + 1) s) (need - 1 + arity (get_or s i 0)) (drop (i + 1) t)
    agree-step d = compared ∙ rw d

-- where the codes from i on are still to be judged, and `all` is what comes out
module _ (s : List ℕ) (i : ℕ) (nullable : Bool) {all : Option ℕ} (e : all ≡ complaint (bad_arguments nullable (drop i s))) where
  pub arguments_end : length s ≤ i → None ≡ all
  unfolding bad_arguments
  arguments_end h = sym (e ∙ ap (λ (l : List ℕ). complaint (bad_arguments nullable l)) (drop_of_length-le s h))

  abbrev passes : Bool
  passes = cond nullable (value_ok (get_or s i 0 % 256)) (head_ok (get_or s i 0 % 256))

  opened : i < length s → all ≡ complaint (unless passes (get_or s i 0 / 256) ++ bad_arguments (eqb (get_or s i 0 % 256) 80) (drop (i + 1) s))
  unfolding bad_arguments
  opened h = e ∙ ap (λ (l : List ℕ). complaint (bad_arguments nullable l)) (cons_at s i h)

  pub arguments_no : i < length s → passes ≡ false → Some (get_or s i 0 / 256) ≡ all
  unfolding unless
  arguments_no h d = sym (opened h ∙ rw d)

  pub arguments_step : i < length s → passes ≡ true → all ≡ complaint (bad_arguments (eqb (get_or s i 0 % 256) 80) (drop (i + 1) s))
  unfolding unless
  arguments_step h d = opened h ∙ rw d

-- a list of codes by its first
pub no_first : (s : List ℕ) → None ≡ slice_get s 0 → s ≡ []
no_first [] e = refl
no_first (x ∷ s) e = differ cc

pub some_first : (s : List ℕ) (w : ℕ) → Some w ≡ slice_get s 0 → s ≡ w ∷ drop 1 s
some_first [] w e = differ cc
some_first (x ∷ s) w e = let z : x ≡ w = cc in rw z

pub enum_is : {s r : List ℕ} (w : ℕ) (b : Bool) → s ≡ w ∷ r → (eqb (w % 256) 0 || (leb 60 (w % 256) && leb (w % 256) 63)) ≡ b → complaint (bad_enum s) ≡ complaint (unless b (w / 256))
unfolding bad_enum listed_kind
enum_is w b e q = rw (e, q)

pub reader_is : {s r : List ℕ} (w : ℕ) → s ≡ w ∷ r
    → bad_reader s ≡ cond (eqb (w % 256) 79) (bad_enum r) (cond (eqb (w % 256) 81) (bad_arguments false r) (unless (head_ok (w % 256)) (w / 256) ++ bad_arguments (eqb (w % 256) 80) r))
unfolding bad_reader
reader_is w e = rw e

pub none_bad : {s : List ℕ} → s ≡ [] → (None ≡ complaint (bad_enum s)) × (None ≡ complaint (bad_reader s))
unfolding bad_enum bad_reader
none_bad e = rw e (refl, refl)

pub empty : (s : List ℕ) → length s ≡ 0 → s ≡ []
empty [] e = refl
empty (b ∷ s) e = absurd (omega arith)

-- the head at a place
module _ (file : List ℕ) (a : ℕ) where
  -- the file from the place on, or none of it
  unfoldable pub part : List ℕ
  part = take (length file - min a (length file)) (drop (min a (length file)) file)

  pub part_is : part ≡ drop a file
  unfolding part
  part_is = rest file (min a (length file)) ∙ go (leb a (length file)) refl where
    go : (b : Bool) → leb a (length file) ≡ b → drop (min a (length file)) file ≡ drop a file
    go true q = let h = leb-true a (length file) q in let z : min a (length file) ≡ a = omega arith in rw z
    go false q =
        let h = leb-false a (length file) q in
        let z : min a (length file) ≡ length file = omega arith in
        rw z (drop_of_length-le file (omega arith) ∙ sym (drop_of_length-le file (omega arith)))

-- an enum's target is put in its place, or there is none
module _ (c : List ℕ) (used end : ℕ) where
  pub too_few : end < used + 2 → Settles c c used end end
  unfolding is_enums
  too_few h = let b = lt-leb (used + 2) end h in record { ends = rw b; writes = rw b }

  module _ (h : used + 2 ≤ end) where
    pub no_enum : (get_or c used 0 % 256 ≡ 79 → ⊥) → Settles c c used end end
    unfolding is_enums
    no_enum e =
        let b = le-leb (used + 2) end h in
        let d = ne_eqb (get_or c used 0 % 256) 79 e in
        record { ends = rw (b, d); writes = rw (b, d) }

    pub some-enum : {c' : List ℕ} → get_or c used 0 % 256 ≡ 79 → c' ≡ set c used (enum_word (get_or c (used + 1) 0)) → Settles c c' used end (used + 1)
    unfolding is_enums
    some-enum e w =
        let b = le-leb (used + 2) end h in
        let d = eq-eqb (get_or c used 0 % 256) 79 e in
        record { ends = rw (b, d); writes = w ∙ rw (b, d) }

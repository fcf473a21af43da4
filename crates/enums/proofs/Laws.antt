-- Heads by the bytes that stand in one. Assumes nothing.
use mathlib.Core.Path.{◌≡◌, refl, ap}
use mathlib.Core.Bool.{Bool, true, false, ◌&&◌, cond}
use mathlib.Core.List.{List, [], ◌∷◌}
use Prim.Native.Nat.{ℕ, suc}
use native.Mathlib.Omega.{arith}
use lib.Dec.{eqb}
use lib.ListN.{length}
use Rattle.layout.specs.Name.{head_byte, all}
use Rattle.layout.specs.Kind.{lookup, targets}
use Rattle.names.specs.Parse.{span}
use Rattle.names.specs.Entries.{is_size}
use Rattle.enums.specs.Judge.{is_head, is_enum_type}

-- every byte is of a class exactly if as many bytes as there are stand in it from the first on
span_all : (p : ℕ → Bool) (s : List ℕ) → span p s ≡ length s → all p s ≡ true
unfolding span all
span_all p [] e = refl
span_all p (b ∷ s) e = go (p b) e (span_all p s) where
  go : (x : Bool) → cond x (suc (span p s)) 0 ≡ suc (length s) → (span p s ≡ length s → all p s ≡ true) → (x && all p s) ≡ true
  go true q f = f (omega arith)
  go false q f = absurd (omega arith)

all_span : (p : ℕ → Bool) (s : List ℕ) → (span p s ≡ length s → ⊥) → all p s ≡ false
unfolding span all
all_span p [] e = absurd (e refl)
all_span p (b ∷ s) e = go (p b) e (all_span p s) where
  go : (x : Bool) → (cond x (suc (span p s)) 0 ≡ suc (length s) → ⊥) → ((span p s ≡ length s → ⊥) → all p s ≡ false) → (x && all p s) ≡ false
  go true q f = f (λ r. q (ap suc r))
  go false q f = refl

-- an entry by itself, by the tests in the code's order
module _ (name : List ℕ) (size : ℕ) where
  pub no_size : is_size size ≡ false → false ≡ is_enum_type name size
  unfolding is_enum_type
  no_size e = rw e

  pub no_name : is_size size ≡ true → length name ≡ 0 → false ≡ is_enum_type name size
  unfolding is_enum_type is_head
  no_name e l = go name l where
    go : (n : List ℕ) → length n ≡ 0 → false ≡ (is_size size && (is_head n && eqb (lookup n targets) 0))
    go [] q = rw e
    go (b ∷ n) q = absurd (omega arith)

  pub no_head : is_size size ≡ true → (span head_byte name ≡ length name → ⊥) → false ≡ is_enum_type name size
  unfolding is_enum_type is_head
  no_head e f = go name f where
    go : (n : List ℕ) → (span head_byte n ≡ length n → ⊥) → false ≡ (is_size size && (is_head n && eqb (lookup n targets) 0))
    go [] q = rw e
    go (b ∷ n) q = rw (e, all_span head_byte (b ∷ n) q)

  pub some-head : is_size size ≡ true → (length name ≡ 0 → ⊥) → span head_byte name ≡ length name → eqb (lookup name targets) 0 ≡ is_enum_type name size
  unfolding is_enum_type is_head
  some-head e f s = go name f s where
    go : (n : List ℕ) → (length n ≡ 0 → ⊥) → span head_byte n ≡ length n → eqb (lookup n targets) 0 ≡ (is_size size && (is_head n && eqb (lookup n targets) 0))
    go [] q r = absurd (q refl)
    go (b ∷ n) q r = rw (e, span_all head_byte (b ∷ n) r)

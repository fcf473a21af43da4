-- Eight bytes as a number, kinds with no rule, and what reading a value of fixed size answers in each case. Assumes nothing.
use mathlib.Core.Path.{◌≡◌, ap, ◌∙◌}
use mathlib.Core.Bool.{true, false}
use mathlib.Core.List.{List}
use Prim.Native.Nat.{ℕ, ◌+◌, ◌<◌, ◌≤◌}
use native.Mathlib.Omega.{arith}
use lib.ListN.{length, take, drop}
use lib.Seq.{length-take-le, take_all}
use borrow.Author.Tests.{le-leb, lt-leb, ne_eqb}
use Rattle.layout.specs.Number.{value_of}
use Rattle.laws.specs.Small.{differ}
use Rattle.reading.specs.Answer.{Answer, read, refused, bind, check}
use Rattle.reading.specs.Reads.{some, field}
use Rattle.reading.specs.Little.{little_at, little_there}
use Rattle.reading.specs.Fixed.{rule, fixed_at, sized}

-- eight bytes are read as their number
pub eight_read : (own : List ℕ) → length own ≡ 8 → little_at own 8 0 0 ≡ read (value_of own) 8
eight_read own e = little_there own 8 0 0 (omega arith) ∙ ap (λ (s : List ℕ). read (value_of s) 8) (take_all 8 own (omega arith))

pub no_refusal : (own : List ℕ) {x : Answer ℕ} {n p : ℕ} → length own ≡ 8 → x ≡ little_at own 8 0 0 → x ≡ refused n p → ⊥
no_refusal own e q r = let z = eight_read own e in differ cc

pub eight_value : (own : List ℕ) {x : Answer ℕ} {n p : ℕ} → length own ≡ 8 → x ≡ little_at own 8 0 0 → x ≡ read n p → n ≡ value_of own
eight_value own {n = n} e q r =
    let z = eight_read own e in
    let v : n ≡ value_of own = cc in
    v

pub no_rule : (kind : ℕ) (own : List ℕ) → (kind ≡ 11 → ⊥) → (kind ≡ 21 → ⊥) → (kind ≡ 22 → ⊥) → rule kind own ≡ true
unfolding rule
no_rule kind own p q r = rw (ne_eqb kind 11 p, ne_eqb kind 21 q, ne_eqb kind 22 r)

module _ (file : List ℕ) (kind size at : ℕ) where
  pub missing : length (drop at file) < size → sized (fixed_at file kind size at) ≡ refused 1 at
  unfolding sized fixed_at field some bind check
  missing h = rw (lt-leb size (length (drop at file)) h)

  module _ (there : size ≤ length (drop at file)) where
    pub kept : rule kind (take size (drop at file)) ≡ true → sized (fixed_at file kind size at) ≡ read size (at + size)
    unfolding sized fixed_at field some bind check
    kept r = rw (le-leb size (length (drop at file)) there, r, length-take-le size (drop at file) there)

    pub broken : rule kind (take size (drop at file)) ≡ false → sized (fixed_at file kind size at) ≡ refused 15 at
    unfolding sized fixed_at field some bind check
    broken r = rw (le-leb size (length (drop at file)) there, r)

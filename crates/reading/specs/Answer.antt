-- What a reader at a place answers. Assumes nothing.
use Rattle.std.specs.Prelude.{◌≡◌, refl, Bool, true, false, ℕ, zero, suc, ◌≤◌, leb}
use Rattle.std.proofs.Common.{arith, leb-true, le-leb}
use Rattle.laws.specs.Small.{differ}
use Rattle.laws.specs.Ok as law

-- refused with a number and a place, or a value and the next byte
pub data Answer (A : Type 0) : Type 0 where
  refused : (number place : ℕ) → Answer A
  read : (value : A) (next : ℕ) → Answer A

unfoldable pub bind : {A B : Type 0} → Answer A → (A → ℕ → Answer B) → Answer B
bind (refused n p) k = refused n p
bind (read a e) k = k a e

unfoldable pub check : {A : Type 0} → Bool → ℕ → ℕ → Answer A → Answer A
check true n p x = x
check false n p x = refused n p

-- so many values one after the other, put together from the last on
unfoldable pub several : {A B : Type 0} → (none : B) (add : A → B → B) → (ℕ → Answer A) → (n at : ℕ) → Answer B
several none add r zero at = read none at
several none add r (suc n) at = bind (r at) (λ a e. bind (several none add r n e) (λ l next. read (add a l) next))

-- what holds of a value that was read, and of the next byte
abbrev pub Ok : {A : Type 0} → (A → ℕ → Type 0) → Answer A → Type 0
Ok P x = law.Ok read P x

pub not_read : {A : Type 0} {P : A → ℕ → Type 0} {n p : ℕ} → Ok P (refused n p)
not_read = record { got = λ q. differ cc }

pub is_read : {A : Type 0} {P : A → ℕ → Type 0} {a : A} {e : ℕ} → P a e → Ok P (read a e)
is_read {a = v} {e = e} p = record { got = λ {a} {b} q. let i : v ≡ a = cc in let j : e ≡ b = cc in rw (i, j) at p }

pub ok_bind : {A B : Type 0} {P : A → ℕ → Type 0} {Q : B → ℕ → Type 0} {x : Answer A} {k : A → ℕ → Answer B}
    → Ok P x → ((a : A) (e : ℕ) → P a e → Ok Q (k a e)) → Ok Q (bind x k)
unfolding bind
ok_bind {x = refused n p} o f = not_read
ok_bind {x = read a e} o f = f a e (o.got refl)

pub ok_check : {A : Type 0} {Q : A → ℕ → Type 0} (b : Bool) (n p : ℕ) (x : Answer A) → (b ≡ true → Ok Q x) → Ok Q (check b n p x)
unfolding check
ok_check true n p x f = f refl
ok_check false n p x f = not_read

-- a number from 1 to m
unfoldable pub within : ℕ → ℕ → Bool
within m zero = false
within m (suc n) = leb (suc n) m

pub within-true : (m n : ℕ) → within m n ≡ true → (1 ≤ n) × (n ≤ m)
unfolding within
within-true m zero q = differ cc
within-true m (suc n) q = (omega arith, leb-true (suc n) m q)

pub true-within : (m n : ℕ) → 1 ≤ n → n ≤ m → within m n ≡ true
unfolding within
true-within m zero p q = absurd (omega arith)
true-within m (suc n) p q = le-leb (suc n) m q

-- One more zero of a fill, one more byte of a copy, and ranges that end inside. Assumes nothing.
use mathlib.Core.Path.{◌≡◌, refl, sym, ap, subst, ◌∙◌}
use mathlib.Core.Bool.{Bool, true, false, ◌&&◌, and-eq-true_iff}
use mathlib.Core.List.{List, ◌∷◌, ◌++◌, append-nil, append_assoc}
use Prim.Native.Nat.{ℕ, zero, suc, ◌+◌, ◌-◌, ◌≤◌, ◌<◌}
use native.Mathlib.Omega.{arith}
use lib.Dec.{leb}
use lib.ListN.{length, take, drop, get_or, set, replicate, length-replicate, get_or-replicate, length-set, drop_of_length-le}
use Rattle.std.proofs.lemmas.List.{take-append-drop, drop-drop}
use lib.Seq.{paste, paste-zero, paste-suc, take_all}
use borrow.Author.Tests.{leb-true, le-leb}
use borrow.Rule.Slice.PartMut.{put_mid}
use Rattle.fill.specs.Fill.{wiped, pasted, inside, copied}

take-replicate : (n m : ℕ) → n ≤ m → take n (replicate {A = ℕ} m 0) ≡ replicate n 0
take-replicate zero m h = refl
take-replicate (suc n) zero h = absurd (omega arith)
take-replicate (suc n) (suc m) h = ap (λ (l : List ℕ). 0 ∷ l) (take-replicate n m (omega arith))

module _ {A : Type 0} (z : A) (d : List A) (k : ℕ) where
  -- d with z from k up to i
  abbrev pub zeroed : ℕ → List A
  zeroed i = paste d k (replicate (length d - k) z) (i - k)

  pub zeroed_none : d ≡ zeroed k
  zeroed_none = let e : k - k ≡ 0 = omega arith in rw e (paste-zero d k (replicate (length d - k) z))

  pub zeroed_more : (i : ℕ) → k ≤ i → i < length d → set (zeroed i) i z ≡ zeroed (i + 1)
  zeroed_more i low h =
      let w : List A = replicate (length d - k) z in
      let e : i + 1 - k ≡ suc (i - k) = omega arith in
      let f : k + (i - k) ≡ i = omega arith in
      let g : get_or w (i - k) z ≡ z = get_or-replicate (length d - k) (i - k) z z (omega arith) in
      rw e (subst (λ j. set (zeroed i) j z ≡ paste d k w (suc (i - k))) f
      (subst (λ v. set (zeroed i) (k + (i - k)) v ≡ paste d k w (suc (i - k))) g
      (paste-suc d k w (i - k) z (omega arith) (omega (arith, length-replicate {A = A} (length d - k) z)))))

  pub zeroed_all : (i : ℕ) → k ≤ i → length d ≤ i → zeroed i ≡ take k d ++ replicate (length d - k) z
  zeroed_all i low h =
      let w : List A = replicate (length d - k) z in
      rw (take_all (i - k) w (omega (arith, length-replicate {A = A} (length d - k) z)), drop_of_length-le d {i = k + (i - k)} (omega arith)) (append-nil _)

  -- before a turn of a loop that puts z: the list has z up to i, and its length is as it was
  abbrev pub Zeroing : List A → ℕ → Type 0
  Zeroing out i = (length out ≡ length d) × (out ≡ zeroed i)

  pub zeroing_goes_on : {out : List A} {i : ℕ} → Zeroing out i → k ≤ i → i < length d → Zeroing (set out i z) (i + 1)
  zeroing_goes_on {out} {i} w l h =
      (length-set out i z ∙ w.0, ap (λ (l : List A). set l i z) w.1 ∙ zeroed_more i l h)

-- a part of a list that was filled with zeros, or into which a part of another was copied
pub put_wiped : (l : List ℕ) (from to : ℕ) (zeros : List ℕ) → zeros ≡ replicate (to - from) 0 → put_mid from (to - from) l zeros ≡ wiped l from to
unfolding wiped
put_wiped l from to zeros e = rw (e, drop-drop (to - from) from l) (sym (append_assoc (take from l) (replicate (to - from) 0) (drop (from + (to - from)) l)))

pub wiped_none : (l : List ℕ) (from to : ℕ) → to ≤ from → l ≡ wiped l from to
unfolding wiped
wiped_none l from to h =
    let e : to - from ≡ 0 = omega arith in
    let f : from + 0 ≡ from = omega arith in
    rw (e, f, append-nil (take from l)) (sym (take-append-drop from l))

pub put_pasted : (out : List ℕ) (to : ℕ) (src : List ℕ) (from n : ℕ) {k m : ℕ} {bytes : List ℕ} → k ≡ n → m ≡ n → bytes ≡ take m (drop from src)
    → put_mid to k out bytes ≡ pasted out to src from n
unfolding pasted
put_pasted out to src from n e f g = rw (g, e, f, drop-drop n to out) (sym (append_assoc (take to out) (take n (drop from src)) (drop (to + n) out)))

module _ (out : List ℕ) (to : ℕ) (src : List ℕ) (from n : ℕ) where
  pub in_both : to + n ≤ length out → from + n ≤ length src → (true ≡ inside out to src from n) × (pasted out to src from n ≡ copied out to src from n)
  unfolding inside copied
  in_both p q = (rw (le-leb (to + n) (length out) p, le-leb (from + n) (length src) q), rw (le-leb (to + n) (length out) p, le-leb (from + n) (length src) q))

  pub not_both : ((to + n ≤ length out) × (from + n ≤ length src) → ⊥) → (false ≡ inside out to src from n) × (out ≡ copied out to src from n)
  unfolding inside copied
  not_both no_room = go (inside out to src from n) refl
    where
      go : (t : Bool) → leb (to + n) (length out) && leb (from + n) (length src) ≡ t → (false ≡ inside out to src from n) × (out ≡ copied out to src from n)
      go false e = (sym e, rw e)
      go true e =
          let p = (and-eq-true_iff (leb (to + n) (length out)) (leb (from + n) (length src))).0 e in
          absurd (no_room (leb-true (to + n) (length out) p.0, leb-true (from + n) (length src) p.1))

-- Whether two lists of bytes are the same, and the bytes that a reader takes. Assumes nothing.
use Rattle.std.specs.Prelude.{◌≡◌, refl, Bool, true, false, ◌&&◌, List, [], ◌∷◌, ℕ, ◌+◌, ◌-◌, eqb, drop}
use Rattle.std.proofs.Common.{sym, eqb-true, eq-eqb}
use native.Mathlib.Omega.{arith}
use Rattle.std.proofs.Math.ListN.{length, take}
use Rattle.std.proofs.Math.Seq.{take-append_seam}
use Rattle.laws.specs.Small.{both, differ}
use Rattle.reading.specs.Answer.{Answer, read, bind, is_read, ok_bind}
use Rattle.reading.specs.Reads.{Reads}

unfoldable pub same : List ℕ → List ℕ → Bool
same [] [] = true
same [] (y ∷ ys) = false
same (x ∷ xs) [] = false
same (x ∷ xs) (y ∷ ys) = eqb x y && same xs ys

pub same_sound : (xs ys : List ℕ) → same xs ys ≡ true → xs ≡ ys
unfolding same
same_sound [] [] t = refl
same_sound [] (y ∷ ys) t = differ cc
same_sound (x ∷ xs) [] t = differ cc
same_sound (x ∷ xs) (y ∷ ys) t =
    let p = both (eqb x y) (same xs ys) t in
    rw (eqb-true x y p.0, same_sound xs ys p.1)

pub same_complete : (xs : List ℕ) → same xs xs ≡ true
unfolding same
same_complete [] = refl
same_complete (x ∷ xs) = rw (eq-eqb x x refl, same_complete xs)

module _ (file : List ℕ) where
  -- a value, and the bytes that a reader takes for it
  unfoldable pub with_bytes : {A : Type 0} → (ℕ → Answer A) → ℕ → Answer (A × List ℕ)
  with_bytes r at = bind (r at) (λ a e. read (a, take (e - at) (drop at file)) e)

  pub with_bytes_reads : {A : Type 0} {F : A → List ℕ → Type 0} {r : ℕ → Answer A} → Reads file F r → Reads file (λ a bs. (bs ≡ a.1) × F a.0 bs) (with_bytes r)
  unfolding with_bytes bind
  with_bytes_reads x = record {
    complete = λ a bs rest at w q.
        let e : at + length bs - at ≡ length bs = omega arith in
        rw (x.complete a.0 bs rest at w.1 q, e, q, take-append_seam, w.0);
    sound = λ h at. ok_bind (x.sound h at) (λ a e v.
        let l : e - at ≡ length v.0 = omega arith in
        let own : take (e - at) (drop at file) ≡ v.0 = rw (l, v.2, take-append_seam) in
        is_read {a = (a, take (e - at) (drop at file))} (v.0, (sym own, v.1), v.2, v.3));
  }

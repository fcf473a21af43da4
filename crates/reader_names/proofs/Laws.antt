-- What `judge` answers, and what a turn of the loop over lines leaves. Assumes nothing.
use mathlib.Core.Path.{◌≡◌, refl, sym, ap, subst, ◌∙◌}
use mathlib.Core.Bool.{true, false, not}
use mathlib.Core.List.{List, [], ◌∷◌}
use mathlib.Core.Logic.{◌⊎◌, inl, inr}
use Prim.Native.Nat.{ℕ, zero, suc, ◌+◌, ◌-◌, ◌*◌, ◌≤◌, ◌<◌}
use native.Mathlib.Omega.{arith}
use lib.ListN.{length, take, drop, get_or, set, length-drop, drop_of_length-le}
use lib.Seq.{sets, drop-drop, length-take-le}
use borrow.Author.Tests.{eq-eqb, ne_eqb, le-leb, lt-leb}
use Rattle.names.specs.Parse.{name_of}
use Rattle.names.specs.Sound.{span_le}
use Rattle.names.specs.Contract.{refused, placed}
use Rattle.names.specs.Entries.{entries_in, entries_of, lawfully, enums_of}
use Rattle.names.proofs.Laws.{cons_at, rest}
use Rattle.io.specs.Counts.{IsPrefixLen}
use Rattle.std.specs.Prelude.{Result}
use Rattle.targets.specs.declared.Unresolved.{Unresolved}
use Rattle.targets.specs.Contract.{told, resolution, Resolves}
use Rattle.targets.specs.Meaning.{refused_is, refusal_bounds}
use Rattle.reader_names.specs.Lines.{number, refusal, in_line, line_size, refusals, all, Judges}

-- an empty name
pub empty_is : (s : List ℕ) → length s ≡ 0 → 65536 * 9 ≡ refusal s
unfolding refusal
empty_is s h = rw (eq-eqb (length s) 0 h)

pub long_is : (s : List ℕ) → (length s ≡ 0 → ⊥) → 1024 < length s → 65536 * 9 ≡ refusal s
unfolding refusal
long_is s h l = rw (ne_eqb (length s) 0 h, lt-leb (length s) 1024 l)

-- the places of a name that is not too long fit
pub judged_is : (s enums c c' : List ℕ) (r : Result ℕ Unresolved) → (length s ≡ 0 → ⊥) → length s ≤ 1024 → enums ≡ [] → length c ≡ 187 → Resolves (enums_of enums) s 0 c c' 0 r
    → (k : ℕ) → number (told r) ≡ k → k ≡ refusal s
unfolding refusal placed enums_of entries_of entries_in lawfully
judged_is s enums c c' r h m b l w k e =
    let p : refusal s ≡ number (resolution [] true 187 0 0 (name_of 0 s)) = rw (ne_eqb (length s) 0 h, le-leb (length s) 1024 m) in
    let x : placed s 0 0 ≡ true = rw (le-leb 0 16777216 (omega arith), le-leb (0 + length s) 16777216 (omega arith)) in
    let q : number (told r) ≡ number (resolution [] true 187 0 0 (name_of 0 s)) = ap number w.answers ∙ rw (b, x, l) in
    sym e ∙ q ∙ sym p

-- a refusal's number and place fit in one number
pub bounded : (s enums c c' : List ℕ) (r : Result ℕ Unresolved) (number place : ℕ) → length s ≤ 1024 → Resolves (enums_of enums) s 0 c c' 0 r → told r ≡ refused number place → (number ≤ 38) × (place ≤ 1024)
bounded s enums c c' r number place h w e =
    let b = refusal_bounds (refused_is (enums_of enums) s 0 c c' 0 number place w e) in
    (small b.0, omega (arith, b.1))
  where
    small : (number ≡ 11) ⊎ ((33 ≤ number) × (number ≤ 38)) → number ≤ 38
    small (inl q) = omega arith
    small (inr q) = q.1

pub ends_line : (b : ℕ) → b ≡ 10 → in_line b ≡ false
ends_line b e = ap not (eq-eqb b 10 e)

pub stays-in_line : (b : ℕ) → (b ≡ 10 → ⊥) → in_line b ≡ true
stays-in_line b e = ap not (ne_eqb b 10 e)

-- what is left to write for the lines from `at` on
pub record Left (s n₀ n : List ℕ) (at count : ℕ) : Type 0 where
  pub lines : ℕ
  pub enough : length s ≤ at + lines
  pub counts : length (all s) ≡ count + length (refusals lines (drop at s))
  pub writes : sets n₀ 0 (all s) ≡ sets n count (refusals lines (drop at s))

pub start_is : (s n : List ℕ) → Left s n n 0 0
start_is s n = record { lines = length s; enough = omega arith; counts = omega arith; writes = refl }

no_lines : (l : ℕ) → refusals l [] ≡ []
unfolding refusals
no_lines zero = refl
no_lines (suc l) = refl

pub end_is : (s n₀ n : List ℕ) (at count : ℕ) → length s ≤ at → Left s n₀ n at count → Judges s n₀ n count
end_is s n₀ n at count h o =
    let d : refusals o.lines (drop at s) ≡ [] = ap (refusals o.lines) (drop_of_length-le s h) ∙ no_lines o.lines in
    record { counts = omega (arith, o.counts, ap length d); writes = sym (o.writes ∙ ap (sets n count) d) }

-- the lines of a text that is not empty
a_line : (l b : ℕ) (t d : List ℕ) → d ≡ b ∷ t → refusals (suc l) d ≡ refusal (take (line_size d) d) ∷ refusals l (drop (line_size d + 1) d)
unfolding refusals
a_line l b t d e = rw e

module _ (s n₀ n : List ℕ) (at count : ℕ) (h : at < length s) (o : Left s n₀ n at count) where
  step_as : (l : ℕ) → o.lines ≡ suc l → Left s n₀ (set n count (refusal (take (line_size (drop at s)) (drop at s)))) (at + line_size (drop at s) + 1) (count + 1)
  step_as l e =
      let d = drop at s in
      let k = line_size d in
      let x = refusal (take k d) in
      let m : at + (k + 1) ≡ at + k + 1 = omega arith in
      let p : refusals o.lines d ≡ x ∷ refusals l (drop (at + k + 1) s) =
      ap (λ (j : ℕ). refusals j d) e ∙ a_line l (get_or s at 0) (drop (at + 1) s) d (cons_at s at h)
      ∙ ap (λ (t : List ℕ). x ∷ refusals l t) (drop-drop (k + 1) at s ∙ ap (λ (j : ℕ). drop j s) m) in
      let q : suc count ≡ count + 1 = omega arith in
      record {
        lines = l;
        enough = omega (arith, o.enough);
        counts = omega (arith, o.counts, ap length p);
        writes = o.writes ∙ ap (sets n count) p ∙ ap (λ (j : ℕ). sets (set n count x) j (refusals l (drop (at + k + 1) s))) q;
      }

  some_lines : (l : ℕ) → o.lines ≡ l → Left s n₀ (set n count (refusal (take (line_size (drop at s)) (drop at s)))) (at + line_size (drop at s) + 1) (count + 1)
  some_lines zero e = absurd (omega (arith, o.enough))
  some_lines (suc l) e = step_as l e

  -- a turn stores the refusal of a line of k bytes
  pub step_is : (k x : ℕ) → k ≡ line_size (drop at s) → x ≡ refusal (take (at + k - at) (drop at s)) → Left s n₀ (set n count x) (at + k + 1) (count + 1)
  step_is k x e f =
      let m : at + k - at ≡ line_size (drop at s) = omega arith in
      let v : x ≡ refusal (take (line_size (drop at s)) (drop at s)) = f ∙ ap (λ (j : ℕ). refusal (take j (drop at s))) m in
      subst (λ (j : ℕ). Left s n₀ (set n count x) (at + j + 1) (count + 1)) (sym e)
      (subst (λ (y : ℕ). Left s n₀ (set n count y) (at + line_size (drop at s) + 1) (count + 1)) (sym v) (some_lines o.lines refl))

-- the size of the line at `at`, which stands in the text
pub line_is : (s : List ℕ) (at k : ℕ) → at < length s → k ≡ line_size (take (length s - at) (drop at s)) → (k ≡ line_size (drop at s)) × (at + k ≤ length s)
unfolding line_size
line_is s at k h e =
    let p : k ≡ line_size (drop at s) = e ∙ ap line_size (rest s at) in
    (p, omega (arith, p, span_le in_line (drop at s), length-drop at s))

few : (l : ℕ) (s : List ℕ) → length (refusals l s) ≤ l
unfolding refusals
few zero s = omega arith
few (suc l) [] = omega arith
few (suc l) (b ∷ s) = omega (arith, few l (drop (line_size (b ∷ s) + 1) (b ∷ s)))

-- a text has no more lines than bytes
pub counts_is : (s n n' : List ℕ) (count : ℕ) → length s ≤ length n' → Judges s n n' count → IsPrefixLen count n'
counts_is s n n' count h j =
    let l : count ≤ length n' = omega (arith, j.counts, few (length s) s) in
    (l, sym (length-take-le count n' l))

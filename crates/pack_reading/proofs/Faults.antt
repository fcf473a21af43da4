-- Which refusals reading a pack can give, and where: those of Req 01, 31 only where there may be no room, and 51 only where there is a mark; all in the pack. Assumes nothing.
use Rattle.std.specs.Prelude.{◌≡◌, Bool, ltb, leb, eqb, length, drop}
use Rattle.std.proofs.Math.Path.{refl}
use Rattle.std.proofs.Math.Bool.{true, false}
use mathlib.Core.List.{List, [], ◌∷◌}
use Rattle.std.proofs.Common.{inl, inr, arith}
use Prim.Native.Nat.{ℕ, zero, suc, ◌+◌, ◌-◌, ◌≤◌, ◌^◌, min}
use Rattle.std.proofs.Math.ListN.{take, length-drop}
use borrow.Author.Tests.{leb-true, leb-false, le-leb}
use Rattle.reading.specs.Answer.{Answer, refused, read, bind, check, several, within}
use Rattle.reading.specs.Reads.{some}
use Rattle.reading.specs.Seven.{group, groups, seven_at}
use Rattle.reading.specs.Little.{little_at}
use Rattle.reading.specs.Utf8.{utf8s}
use Rattle.pack_layout.specs.Pack.{plain, marked}
use Rattle.pack_layout.specs.Numbers.{PackNumber}
use Rattle.reading.specs.Same.{same, with_bytes}
use Rattle.pack_reading.specs.Pack.{path_at, content_at, mark_at, record_at, records_at, files_at, pack_at}
use Rattle.pack_reading.specs.Faults.{Keeps}

module _ (R : ℕ → Type 0) (file : List ℕ) where
  end : ℕ
  end = length file

  keeps_bind : {A B : Type 0} (x : Answer A) (k : A → ℕ → Answer B) → Keeps R end x → ((a : A) (e : ℕ) → e ≤ end → Keeps R end (k a e)) → Keeps R end (bind x k)
  unfolding Keeps bind
  keeps_bind (refused number place) k h f = h
  keeps_bind (read a e) k h f = f a e h

  keeps_check : {A : Type 0} (b : Bool) (n p : ℕ) (x : Answer A) → (b ≡ false → R n) → p ≤ end → (b ≡ true → Keeps R end x) → Keeps R end (check b n p x)
  unfolding Keeps check
  keeps_check true n p x r h f = f refl
  keeps_check false n p x r h f = (r refl, h)

  keeps_read : {A : Type 0} (a : A) (e : ℕ) → e ≤ end → Keeps R end (read a e)
  unfolding Keeps
  keeps_read a e h = h

  module _ (r₁ : R 1) where
    keeps_some : (n place at : ℕ) → place ≤ end → at ≤ end → Keeps R end (some file n place at)
    unfolding some end
    keeps_some n place at p h =
        keeps_check (leb n (length (drop at file))) 1 place _ (λ t. r₁) p (λ t. keeps_read _ _ (omega (arith, leb-true n (length (drop at file)) t, length-drop at file)))

    keeps_little : (k at : ℕ) → at ≤ end → Keeps R end (little_at file k at at)
    unfolding little_at
    keeps_little k at h = keeps_bind (some file k at at) _ (keeps_some k at at h h) (λ bs e l. keeps_read _ _ l)

    -- where there is a mark, 51 may occur
    mark_keeps : R 51 → (mark : List ℕ) (at : ℕ) → at ≤ end → Keeps R end (mark_at mark file at)
    unfolding mark_at
    mark_keeps r₅₁ mark at h =
        keeps_bind (some file (length mark) at at) _ (keeps_some (length mark) at at h h) (λ m e l.
        keeps_check (same m mark) 51 at _ (λ t. r₅₁) h (λ t. keeps_read _ _ l))

    module _ (r₈ : R 8) (r₉ : R 9) (r₁₅ : R 15) where
      keeps_group : (t : Bool) (b at : ℕ) (rest : Answer ℕ) → suc at ≤ end → Keeps R end rest → Keeps R end (group t b at rest)
      unfolding group
      keeps_group true b at rest l h = keeps_read _ _ l
      keeps_group false b at rest l h = keeps_bind rest _ h (λ n e m. keeps_read _ _ m)

      keeps_groups : (k start at : ℕ) (l : List ℕ) → start ≤ end → at + length l ≤ end → Keeps R end (groups k start at l)
      unfolding groups Keeps
      keeps_groups zero start at l s h = (r₈, s)
      keeps_groups (suc k) start at [] s h = (r₁, s)
      keeps_groups (suc k) start at (b ∷ l) s h = keeps_group (ltb b 128) b at (groups k start (suc at) l) (omega (arith, h)) (keeps_groups k start (suc at) l s (omega (arith, h)))

      keeps_seven : (at : ℕ) → at ≤ end → Keeps R end (seven_at file at)
      unfolding seven_at end
      keeps_seven at h =
          keeps_bind (groups 5 at at (drop at file)) _ (keeps_groups 5 at at (drop at file) h (omega (arith, h, length-drop at file))) (λ n e l.
          keeps_check (ltb n (2 ^ 32)) 8 at _ (λ t. r₈) h (λ t. keeps_read _ _ l))

      keeps_path : (at : ℕ) → at ≤ end → Keeps R end (path_at file at)
      unfolding path_at with_bytes
      keeps_path at h =
          keeps_bind (bind (seven_at file at) (λ a e. read (a, take (e - at) (drop at file)) e)) _
          (keeps_bind (seven_at file at) _ (keeps_seven at h) (λ n e l. keeps_read _ _ l)) (λ n e l.
          keeps_check (within 260 n.0) 9 at _ (λ t. r₉) h (λ t.
          keeps_bind (some file n.0 at e) _ (keeps_some n.0 at e h l) (λ path next m. keeps_check (utf8s path) 15 at _ (λ t. r₁₅) h (λ t. keeps_read _ _ m))))

      keeps_content : (at : ℕ) → at ≤ end → Keeps R end (content_at file at)
      unfolding content_at
      keeps_content at h = keeps_bind (little_at file 4 at at) _ (keeps_little 4 at h) (λ n e l. keeps_some n at e h l)

      module _ (mark : List ℕ) (marks : (at : ℕ) → at ≤ end → Keeps R end (mark_at mark file at)) where
        keeps_record : (at : ℕ) → at ≤ end → Keeps R end (record_at mark file at)
        unfolding record_at
        keeps_record at h =
            keeps_bind (mark_at mark file at) _ (marks at h) (λ m start l.
            keeps_bind (path_at file start) _ (keeps_path start l) (λ p size k.
            keeps_bind (content_at file size) _ (keeps_content size k) (λ content next j. keeps_read _ _ j)))

        keeps_several : (n at : ℕ) → at ≤ end → Keeps R end (several [] ◌∷◌ (record_at mark file) n at)
        unfolding several
        keeps_several zero at h = keeps_read _ _ h
        keeps_several (suc n) at h =
            keeps_bind (record_at mark file at) _ (keeps_record at h) (λ f e l.
            keeps_bind (several [] ◌∷◌ (record_at mark file) n e) _ (keeps_several n e l) (λ fs next m. keeps_read _ _ m))

        keeps_records : (n room at : ℕ) → at ≤ end → (leb n room ≡ false → R 31) → Keeps R end (records_at mark file n room at)
        unfolding records_at
        keeps_records n room at h r₃₁ =
            keeps_bind (several [] ◌∷◌ (record_at mark file) (min n room) at) _ (keeps_several (min n room) at h) (λ fs e l.
            keeps_check (leb n room) 31 e _ r₃₁ l (λ t. keeps_read _ _ l))

        -- of a pack of up to 4,096 files
        keeps_pack : (room : ℕ) → R 20 → ((n : ℕ) → n ≤ 4096 → leb n room ≡ false → R 31) → Keeps R end (pack_at mark file room)
        unfolding pack_at files_at end
        keeps_pack room r₂₀ r₃₁ =
            keeps_bind (bind (little_at file 4 0 0) (λ n e. check (leb n 4096) 9 0 (records_at mark file n room e))) _
            (keeps_bind (little_at file 4 0 0) _ (keeps_little 4 0 (omega arith)) (λ n e l.
            keeps_check (leb n 4096) 9 0 _ (λ t. r₉) (omega arith) (λ t. keeps_records n room e l (r₃₁ n (leb-true n 4096 t)))))
            (λ fs e l. keeps_check (eqb e (length file)) 20 e _ (λ t. r₂₀) l (λ t. keeps_read _ _ l))

  -- without a mark, 51 can't occur
  plain_keeps : (at : ℕ) → at ≤ end → Keeps R end (mark_at plain file at)
  unfolding mark_at same some Keeps check bind
  plain_keeps at h = rw (le-leb 0 (length (drop at file)) (omega arith)) (omega (arith, h))

-- ---- Refusals of a reading

-- of a pack without marks
pub plain-refusals : (file : List ℕ) (room : ℕ) → Keeps (PackNumber false) (length file) (pack_at plain file room)
unfolding end
plain-refusals file room =
    keeps_pack (PackNumber false) file (inl refl) (inr (inl refl)) (inr (inr (inl refl))) (inr (inr (inr (inl refl)))) plain
    (plain_keeps (PackNumber false) file) room (inr (inr (inr (inr (inl refl))))) (λ n h t. inr (inr (inr (inr (inr (inl refl))))))

-- of a pack with marks
pub marked-refusals : (file : List ℕ) (room : ℕ) → Keeps (PackNumber true) (length file) (pack_at marked file room)
unfolding end
marked-refusals file room =
    keeps_pack (PackNumber true) file (inl refl) (inr (inl refl)) (inr (inr (inl refl))) (inr (inr (inr (inl refl)))) marked
    (mark_keeps (PackNumber true) file (inl refl) (inr (inr (inr (inr (inr (inr (refl, refl))))))) marked) room (inr (inr (inr (inr (inl refl))))) (λ n h t. inr (inr (inr (inr (inr (inl refl))))))

-- ---- Refusals of a conversion

-- Req 10: "A conversion lends no table": there is room for every pack, and so no 31
pub no_31 : (mark file : List ℕ) → Keeps (λ n. n ≡ 31 → ⊥) (length file) (pack_at mark file 4096)
unfolding end
no_31 mark file =
    let other : ℕ → Type 0 = λ n. n ≡ 31 → ⊥ in
    keeps_pack other file (λ e. absurd (omega arith)) (λ e. absurd (omega arith)) (λ e. absurd (omega arith)) (λ e. absurd (omega arith)) mark
    (mark_keeps other file (λ e. absurd (omega arith)) (λ e. absurd (omega arith)) mark) 4096 (λ e. absurd (omega arith)) (λ n h t. absurd (omega (arith, h, leb-false n 4096 t)))

-- What is read stands there: trees laid down in just those bytes, with just those rows. Assumes nothing.
use Rattle.std.specs.Prelude.{◌≡◌, ltb, leb}
use Rattle.std.proofs.Math.Path.{refl, sym, ap}
use Rattle.std.proofs.Common.{◌∙◌, inl}
use mathlib.Core.List.{List, [], ◌∷◌, ◌++◌, append_assoc}
use Rattle.std.proofs.Math.Logic.{inr}
use Prim.Native.Nat.{ℕ, zero, suc, ◌+◌, ◌-◌, ◌≤◌}
use native.Mathlib.Omega.{arith}
use Rattle.std.proofs.Math.ListN.{length, drop, length-append}
use borrow.Author.Tests.{leb-true, ltb-true}
use Rattle.laws.specs.Ok.{ok_weaken}
use Rattle.layout.specs.Number.{Seven}
use Rattle.layout.specs.Target.{Target, kind_of, sprite_font}
use Rattle.layout.specs.Tree.{Trees, none, tree, count, size, depth, children_at, told_of, told}
use Rattle.layout.specs.Slot.{leaf_kind, Slot, raw, object, reference, leaf, Plan, stop, put, each, font_slots}
use Rattle.layout.specs.Head.{Head}
use Rattle.layout.specs.Layout.{Raw, Value, Lays}
use Rattle.layout.specs.Resource.{Within}
use Rattle.layout.specs.Rows.{row, raw_rows, noted_rows, value_rows}
use Rattle.reading.specs.Answer.{Ok, not_read, is_read, ok_bind, ok_check}
use Rattle.reading.specs.Reads.{Small, Spans}
use Rattle.reading.specs.Seven.{seven_reads}
use Rattle.reading.specs.Rules.{Found, missing, found, reader, reader-sound, serves, serves-sound}
use Rattle.reading.specs.Font.{font_ok, font_sound, font_characters, Characters}
use Rattle.reading.specs.Heads.{leaf_reads}
use Rattle.reading.specs.Walk.{Taken, Outcome, done, before, point, point_is, sequence, raw_at, by_reader, object_at, value_at, walk}
use Rattle.reading.specs.Drafts.{Draft, raw_drafts, value_drafts, drafts_of, drafted, wanting}

module _ (file : List ℕ) (readers : List Target) (shared room : ℕ) (small : Small file) where
  -- values read as a plan says, with depth d left
  pub record Read (d : ℕ) (plan : Plan) (at used parent : ℕ) (a : Taken) (e : ℕ) : Type 0 where
    pub bytes : List ℕ
    pub laid : Lays readers (Within shared) plan a.2 bytes
    pub there : drop at file ≡ bytes ++ drop e file
    pub end : e ≡ at + length bytes
    pub used_is : a.0 ≡ used + size a.2
    pub rows_are : a.1 ≡ drafts_of readers (Within shared) plan a.2 bytes laid at used parent
    pub deep : depth a.2 ≤ d
    pub room_left : used ≤ room → a.0 ≤ room

  -- one value read in a slot
  pub record ReadValue (d : ℕ) (x : Slot) (at used parent : ℕ) (a : Taken) (e : ℕ) : Type 0 where
    pub kind : ℕ
    pub id : ℕ
    pub own : List ℕ
    pub children : Trees
    pub bytes : List ℕ
    pub laid : Value readers (Within shared) (λ plan b. Lays readers (Within shared) plan children b) x kind id own children bytes
    pub tree_is : a.2 ≡ tree kind id own children none
    pub there : drop at file ≡ bytes ++ drop e file
    pub end : e ≡ at + length bytes
    pub used_is : a.0 ≡ used + suc (size children)
    pub rows_are : a.1 ≡ value_drafts readers (Within shared) (λ plan b. Lays readers (Within shared) plan children b)
        (λ plan b v a n p. drafts_of readers (Within shared) plan children b v a n p) x kind id own children bytes laid at used parent
    pub deep : suc (depth children) ≤ d
    pub room_left : a.0 ≤ room

  pub sequence-sound : (d parent : ℕ) (step : Slot → ℕ → ℕ → Outcome) → ((x : Slot) (at used : ℕ) → Ok (ReadValue d x at used parent) (step x at used))
      → (plan : Plan) (at used : ℕ) → Ok (Read d plan at used parent) (sequence step plan at used)
  unfolding sequence Lays noted_rows size depth before told_of
  sequence-sound d parent step h stop at used =
      let l : at ≡ at + 0 = omega arith in
      let n : used ≡ used + 0 = omega arith in
      is_read {a = (used, [], none)} (record { bytes = []; laid = refl; there = refl; end = l; used_is = n; rows_are = refl; deep = omega arith; room_left = λ k. k })
  sequence-sound d parent step h (put x go) at used =
      ok_bind (h x at used)
      (λ a e v. ok_bind (sequence-sound d parent step h (go (told_of a.2)) e a.0)
      (λ b e' v₀. is_read {a = (b.0, a.1 ++ b.1, before a.2 b.2)} (rw v.tree_is
      (let o : told_of a.2 ≡ told v.kind v.own v.children = rw v.tree_is in
      let v' : Read d (go (told v.kind v.own v.children)) e a.0 parent b e' = rw o at v₀ in
      let b₁ = v.bytes in
      let b₂ = v'.bytes in
      let q : drop at file ≡ (b₁ ++ b₂) ++ drop e' file = v.there ∙ ap (λ (l : List ℕ). b₁ ++ l) v'.there ∙ sym (append_assoc b₁ b₂ (drop e' file)) in
      let l : e' ≡ at + length (b₁ ++ b₂) = rw length-append (omega arith) in
      let n : b.0 ≡ used + (suc (size v.children) + size b.2) = omega arith in
      record {
        bytes = b₁ ++ b₂;
        laid = (b₁, b₂, refl, v.laid, v'.laid);
        there = q;
        end = l;
        used_is = n;
        rows_are = rw (← v.end, ← v.used_is, ← v.rows_are, ← v'.rows_are);
        deep = omega arith;
        room_left = λ k. v'.room_left v.room_left;
      }))))

-- Where what was read ends, and how many rows it took. Assumes nothing.
use Rattle.std.specs.Prelude.{◌≡◌, List, ◌++◌, drop}
use Rattle.std.proofs.Math.Path.{refl, ap}
use Rattle.std.proofs.Common.{◌∙◌, inl, inr, arith, length-append, length-drop}
use Prim.Native.Nat.{ℕ, suc, ◌+◌, ◌-◌, ◌≤◌}
use Rattle.std.proofs.Math.ListN.{length}
use Rattle.layout.specs.Target.{Target}
use Rattle.layout.specs.Tree.{Trees, none, tree, size, told, count}
use Rattle.layout.specs.Slot.{Slot, raw, object, reference, leaf, Plan, stop, put}
use Rattle.layout.specs.Layout.{Value, Lays}
use Rattle.layout.specs.Resource.{Within}
use Rattle.layout.specs.Rows.{raw_rows, noted_rows, value_rows}
use Rattle.reading.specs.Answer.{read}
use Rattle.reading.specs.Reads.{Small}
use Rattle.reading.specs.Walk.{Taken, sequence, walk}
use Rattle.reading.specs.Sound.{ReadValue}
use Rattle.reading.proofs.Sound.{walk-sound, walks_sound}
use Rattle.reading.specs.Drafts.{Below, value_drafts, drafts_of}
use Rattle.reading.specs.Bounds.{Bounds, rows-length, value-length}

ends : (file bytes : List ℕ) (at e : ℕ) → drop at file ≡ bytes ++ drop e file → e ≡ at + length bytes → at ≤ length file → e ≤ length file
ends file bytes at e there end h = omega (arith, length-drop at file, length-drop e file, simp length-append at (ap length there))

one_tree : (k i : ℕ) (own : List ℕ) (cs : Trees) → count (tree k i own cs none) ≡ 1
unfolding count
one_tree k i own cs = refl

module _ (file : List ℕ) (readers : List Target) (shared room : ℕ) (small : Small file) where
  value_bounds : {d : ℕ} {x : Slot} (at used parent : ℕ) (a : Taken) (e : ℕ) → ReadValue file readers shared room small d x at used parent a e → Bounds file room at used a e
  value_bounds at used parent a e v =
      let l = value-length readers (Within shared) (λ plan b. Lays readers (Within shared) plan v.children b) (λ plan b w a n p. drafts_of readers (Within shared) plan v.children b w a n p)
      v.children (λ plan b w a n q. rows-length readers (Within shared) plan v.children b w a n q) _ v.kind v.id v.own v.bytes v.laid at used parent in
      let m : length a.1 ≡ suc (size v.children) = ap length v.rows_are ∙ l in
      record {
        ahead = omega (arith, v.end);
        inside = ends file v.bytes at e v.there v.end;
        counted = omega (arith, v.used_is);
        fits = λ h. v.room_left;
      }

  pub walk_bounds : (d : ℕ) (x : Slot) (at used parent : ℕ) (a : Taken) (e : ℕ) → walk file readers shared room d x at used parent ≡ read a e → Bounds file room at used a e
  walk_bounds d x at used parent a e q = value_bounds at used parent a e ((walk-sound file readers shared room small d x at used parent).got q)

  -- a value is one tree
  pub walk_single : (d : ℕ) (x : Slot) (at used parent : ℕ) (a : Taken) (e : ℕ) → walk file readers shared room d x at used parent ≡ read a e → count a.2 ≡ 1
  walk_single d x at used parent a e q =
      let v = (walk-sound file readers shared room small d x at used parent).got q in
      rw v.tree_is (one_tree v.kind v.id v.own v.children)

  pub sequence_bounds : (d : ℕ) (plan : Plan) (at used parent : ℕ) (a : Taken) (e : ℕ)
      → sequence (λ y b v. walk file readers shared room d y b v parent) plan at used ≡ read a e → Bounds file room at used a e
  sequence_bounds d plan at used parent a e q =
      let v = (walks_sound file readers shared room small d plan at used parent).got q in
      let l : length a.1 ≡ size a.2 = ap length v.rows_are ∙ rows-length readers (Within shared) plan a.2 v.bytes v.laid at used parent in
      record {
        ahead = omega (arith, v.end);
        inside = ends file v.bytes at e v.there v.end;
        counted = omega (arith, v.used_is);
        fits = v.room_left;
      }

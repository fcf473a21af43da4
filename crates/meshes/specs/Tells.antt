-- The number that a value tells stands at its first byte. Assumes nothing.
use Rattle.std.specs.Prelude.{◌≡◌, ℕ, ◌+◌, ◌%◌, ◌^◌, ◌<◌, ◌≤◌, List, [], ◌++◌, length, take, drop, slice_index}
use Rattle.std.proofs.Math.Path.{refl, sym, ap}
use Rattle.std.proofs.Common.{◌∙◌, append_assoc, append-nil, arith, length-append}
use Rattle.std.proofs.Math.Seq.{take-append_seam}
use Rattle.layout.specs.Number.{value_of}
use Rattle.layout.specs.Target.{Target, fixed, kind_of, mesh_kind}
use Rattle.layout.specs.Tree.{Trees, none, tree, told, told_of, first_value}
use Rattle.layout.specs.Fixed.{sizes}
use Rattle.layout.specs.Slot.{field_kind, Slot, Plan}
use Rattle.layout.specs.Mesh.{then, uint, declaration_plan, plan_of}
use Rattle.layout.specs.Head.{Head}
use Rattle.layout.specs.Layout.{Raw, Value, Lays, Leafed}
use Rattle.layout.specs.Resource.{Within}
use Rattle.reading.specs.Answer.{read}
use Rattle.reading.specs.Reads.{Small}
use Rattle.reading.specs.Little.{little_at, little_there, little_next}
use Rattle.reading.specs.Walk.{Taken, walk}
use Rattle.reading.proofs.Sound.{walk-sound}
use Rattle.meshes.specs.declared.Step.{Step}
use Rattle.meshes.specs.declared.Step.TheVariants.{Flag}
use Rattle.meshes.specs.Stages.{told_size, told_at, word_of}
use Rattle.meshes.specs.Follows.{Telling, by_flag, by_number, by_size, by_stride}

-- bytes begin with a number of so many bytes
record Begins (size number : ℕ) (bytes : List ℕ) : Type 0 where
  first : List ℕ
  rest : List ℕ
  parts : bytes ≡ first ++ rest
  long : length first ≡ size
  value : value_of first ≡ number

-- a raw value of fixed size begins with its own bytes
fixed-begins : (below : Plan → List ℕ → Type 0) (k kind : ℕ) (own : List ℕ) (cs : Trees) (bytes : List ℕ) → Raw below (fixed k) kind own cs bytes → Begins (slice_index sizes k) (value_of own) bytes
unfolding Head
fixed-begins below k kind own cs bytes w = record {
  first = own;
  rest = w.children;
  parts = w.parts ∙ ap (λ (l : List ℕ). l ++ w.children) w.headed.0;
  long = w.headed.1.whole;
  value = refl;
}

-- bytes that begin so, with others before them that are none and others behind them
begins_on : {z n : ℕ} {a b : List ℕ} (rest : List ℕ) → Begins z n a → b ≡ a ++ rest → Begins z n b
begins_on rest w e = record {
  first = w.first;
  rest = w.rest ++ rest;
  parts = e ∙ ap (λ (l : List ℕ). l ++ rest) w.parts ∙ append_assoc w.first w.rest rest;
  long = w.long;
  value = w.value;
}

module _ (readers : List Target) (refers : ℕ → ℕ → Type 0) where
  -- the stride of a declaration is its first field
  stride_begins : (cs : Trees) (bytes : List ℕ) → Lays readers refers declaration_plan cs bytes → Begins 4 (first_value cs) bytes
  unfolding declaration_plan then uint Lays Value kind_of first_value sizes
  stride_begins none bytes w = absurd w
  stride_begins (tree k i own cs rest) bytes w =
      let u = w.3.1 in
      rw u.kind_of_lem (begins_on w.1 (fixed-begins _ 6 k own cs w.0 u) w.2)

  tells : {x : Slot} {z : ℕ} → Telling x z → (kind id : ℕ) (own : List ℕ) (cs : Trees) (bytes : List ℕ)
      → Value readers refers (λ plan b. Lays readers refers plan cs b) x kind id own cs bytes → Begins z (told kind own cs) bytes
  unfolding Value Leafed Head plan_of kind_of mesh_kind field_kind told sizes
  tells by_flag kind id own cs bytes w = rw w.1.kind_of_lem (fixed-begins _ 11 kind own cs bytes w.1)
  tells by_number kind id own cs bytes w = rw w.1.kind_of_lem (fixed-begins _ 6 kind own cs bytes w.1)
  tells by_size kind id own cs bytes w =
      rw w.2.0 (record { first = own; rest = []; parts = w.2.3 ∙ sym (append-nil own); long = w.2.1; value = refl })
  tells by_stride kind id own cs bytes w =
      let u = w.1 in
      let e : bytes ≡ u.children ++ [] = u.parts ∙ rw u.headed.0 (sym (append-nil u.children)) in
      rw u.kind_of_lem (begins_on [] (stride_begins cs u.children (rw u.headed.2 at u.laid)) e)

-- a number that stands at a place is read there
little_at_lem : (file : List ℕ) (at z n : ℕ) (bytes rest : List ℕ) → Begins z n bytes → drop at file ≡ bytes ++ rest → little_at file z at at ≡ read n (at + z)
little_at_lem file at z n bytes rest b e =
    let d : drop at file ≡ b.first ++ (b.rest ++ rest) = e ∙ ap (λ (l : List ℕ). l ++ rest) b.parts ∙ append_assoc b.first b.rest rest in
    let l : z ≤ length (drop at file) = omega (arith, ap length d ∙ length-append b.first (b.rest ++ rest), b.long) in
    let f : take z (drop at file) ≡ b.first = rw (d, ← b.long, take-append_seam) in
    little_there file z at at l ∙ rw (f, b.value)

-- and it fits a word
word : (step : Step) (n : ℕ) → n < 256 ^ told_size step → n % 2 ^ 32 ≡ n
word Flag n h = omega arith
word _ n h = omega arith

some_bytes : (step : Step) → 1 ≤ told_size step
some_bytes Flag = omega arith
some_bytes _ = omega arith

-- what reading a value that tells a number finds at the value's first byte
module _ (file : List ℕ) (readers : List Target) (shared room : ℕ) (small : Small file) where
  pub told_is : {x : Slot} (step : Step) → Telling x (told_size step) → (depth at used parent : ℕ) (a : Taken) (e : ℕ)
      → walk file readers shared room depth x at used parent ≡ read a e → told_at file step at ≡ told_of a.2
  unfolding told_at told_of
  told_is {x} step t depth at used parent a e q =
      let v = (walk-sound file readers shared room small depth x at used parent).got q in
      let b = tells readers (Within shared) t v.kind v.id v.own v.children v.bytes v.laid in
      let n = little_at_lem file at (told_size step) (told v.kind v.own v.children) v.bytes (drop e file) b v.there in
      let w = little_next file small (told_size step) at at (some_bytes step) n in
      ap word_of n ∙ word step _ w.2 ∙ ap told_of (sym v.tree_is)

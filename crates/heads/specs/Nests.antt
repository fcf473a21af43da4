-- Laws of what stands below a value: the fonts', the pages' and the meshes' slots, and that a walk over a nest goes by its plan. Assumes nothing.
use Rattle.std.specs.Prelude.{◌≡◌, ℕ, zero, suc, ◌+◌, ◌*◌, ◌%◌, ◌^◌, ◌<◌, ◌≤◌, Bool, true, false, cond, List, [], ◌∷◌, ◌++◌, length, drop, ◌==◌, slice_index_or}
use Rattle.std.proofs.Math.Path.{refl, sym, ap}
use Rattle.std.proofs.Common.{◌∙◌, arith, drop_of_length-le, drop-cons, eqb-true}
use Rattle.std.proofs.Math.ListN.{length-replicate}
use Rattle.std.proofs.lemmas.List.{get_or-replicate}
use Rattle.std.proofs.lemmas.Bool.{eqb-false}
use Rattle.layout.specs.Target as Target
use Rattle.layout.specs.Target.{Target, fixed, char, string, object as anything, texture_2d, page, vertex_declaration, mesh, mesh_kind, nullable, list, kind_of}
use Rattle.layout.specs.Fixed.{sizes}
use Rattle.layout.specs.Slot as L
use Rattle.layout.specs.Slot.{Plan, stop, put, each, raw, object, reference, font_slots, page_slots}
use Rattle.layout.specs.Named.{fixed_kind, Lawful}
use Rattle.layout.specs.Mesh.{plan_of}
use Rattle.targets.specs.Code.{Alone, Before, Coded, Stands}
use Rattle.leaves.specs.Like.{same}
use Rattle.meshes.specs.declared.Field.{Field}
use Rattle.meshes.specs.declared.Field.TheVariants.{Plain, Text, Anything, Declaration}
use Rattle.meshes.specs.Stages.{field_of, told_at}
use Rattle.meshes.specs.Follows as Meshes
use Rattle.meshes.specs.Follows.{field_slot, ended, mesh_follows, ends-stop, goes_on, FieldLawful, field-lawful}
use Rattle.leaves.specs.Run.{length_pairs, pair_even, pair_odd}
use Rattle.heads.specs.declared.slot.Slot.{Slot}
use Rattle.heads.specs.declared.nest.Nest.{Nest}
use Rattle.heads.specs.declared.nest.Nest.TheVariants.{Each, Pairs, Font, Page, Mesh}
use Rattle.heads.specs.declared.nest.Stage.{Stage}
use Rattle.heads.specs.declared.nest.Below.{Below}
use Rattle.heads.specs.declared.nest.Below.TheVariants.{Nothing, Nested}
use Rattle.heads.specs.declared.nest.Below.TheVariants.{Simple as SimpleRun}
use Rattle.heads.specs.Placed.{ObjectIs, SlotIs}
use Rattle.heads.specs.Plans.{EachIs, PairsAre, SlotsAre, BelowIs, prelude, Prelude, font_child, field_child, page_child, slot_at, after_of, onward_of, ListStage, MeshStage, StageIs, NestIs, BelowPlan, Heard}

-- how value i stands
pub record ChildIs (file codes : List ℕ) (slots : List L.Slot) (i : ℕ) (s : Slot) : Type 0 where
  pub slot : L.Slot
  pub at : slice_index_or slots i slot ≡ slot
  pub is : SlotIs file codes s slot

module _ (file codes : List ℕ) (p : Prelude codes) where
  stands : (a : ℕ) (t : Target) (words rest : List ℕ) → Lawful t → Coded file t words → drop a (prelude ++ p.rest) ≡ words ++ rest → Stands file codes a t
  stands a t words rest l c e = record { lawful = l; words = words; rest = rest; coded = c; there = ap (drop a) p.begins ∙ e }

  declared : (a : ℕ) (t : Target) (words rest : List ℕ) → Lawful t → Coded file t words → drop a (prelude ++ p.rest) ≡ words ++ rest → ObjectIs file codes a (object t)
  declared a t words rest l c e = record { type = t; is = refl; stands = stands a t words rest l c e }

  pub font_child_lem : (i : ℕ) → i < length font_slots → ChildIs file codes font_slots i (font_child i)
  unfolding font_slots font_child prelude Coded Alone Before Lawful fixed_kind sizes
  font_child_lem zero h = record { slot = object texture_2d; at = refl; is = declared 0 texture_2d (32 ∷ []) _ tt (0, refl) refl }
  font_child_lem (suc zero) h = record { slot = object (list (fixed 30)); at = refl; is = declared 1 (list (fixed 30)) (82 ∷ 30 ∷ []) _ refl (0, 30 ∷ [], refl, (0, refl)) refl }
  font_child_lem (suc (suc zero)) h = record { slot = object (list (fixed 30)); at = refl; is = declared 1 (list (fixed 30)) (82 ∷ 30 ∷ []) _ refl (0, 30 ∷ [], refl, (0, refl)) refl }
  font_child_lem (suc (suc (suc zero))) h = record { slot = object (list char); at = refl; is = declared 3 (list char) (82 ∷ 12 ∷ []) _ tt (0, 12 ∷ [], refl, (0, refl)) refl }
  font_child_lem (suc (suc (suc (suc zero)))) h = record { slot = raw (fixed 5); at = refl; is = (same, (refl, omega arith)) }
  font_child_lem (suc (suc (suc (suc (suc zero))))) h = record { slot = raw (fixed 9); at = refl; is = (same, (refl, omega arith)) }
  font_child_lem (suc (suc (suc (suc (suc (suc zero)))))) h = record { slot = object (list (fixed 24)); at = refl; is = declared 5 (list (fixed 24)) (82 ∷ 24 ∷ []) _ refl (0, 24 ∷ [], refl, (0, refl)) refl }
  font_child_lem (suc (suc (suc (suc (suc (suc (suc zero))))))) h =
      record { slot = raw (nullable char); at = refl; is = record { type = nullable char; is = refl; stands = stands 8 (nullable char) (80 ∷ 12 ∷ []) _ tt (0, 12 ∷ [], refl, (0, refl)) refl } }
  font_child_lem (suc (suc (suc (suc (suc (suc (suc (suc i)))))))) h = absurd (omega arith)

  pub page_child_lem : (i : ℕ) → i < length page_slots → ChildIs file codes page_slots i (page_child i)
  unfolding page_slots page_child prelude Coded Alone Before Lawful fixed_kind sizes kind_of
  page_child_lem zero h = record { slot = object string; at = refl; is = declared 7 string (13 ∷ []) _ tt (0, refl) refl }
  page_child_lem (suc zero) h = record { slot = raw (fixed 30); at = refl; is = (same, (refl, omega arith)) }
  page_child_lem (suc (suc zero)) h = record { slot = reference (kind_of texture_2d); at = refl; is = (same, tt) }
  page_child_lem (suc (suc (suc zero))) h = record { slot = reference (kind_of page); at = refl; is = (same, tt) }
  page_child_lem (suc (suc (suc (suc i)))) h = absurd (omega arith)

  -- 01: "The primary and shared objects are declared Object"
  pub object_at : ObjectIs file codes 10 (object anything)
  unfolding prelude Coded Alone Lawful
  object_at = declared 10 anything (14 ∷ []) _ tt (0, refl) refl

  -- a field of a mesh
  pub field_child_lem : (f : Field) → FieldLawful f → SlotIs file codes (field_child f) (field_slot f)
  unfolding prelude Coded Alone Lawful mesh_kind field_child
  field_child_lem (Plain q) l = (same, l)
  field_child_lem Text l = declared 7 string (13 ∷ []) _ tt (0, refl) refl
  field_child_lem Anything l = object_at
  field_child_lem Declaration l = record { type = mesh vertex_declaration; is = refl; stands = stands 11 (mesh vertex_declaration) (38 ∷ []) _ tt (0, refl) refl }

-- what stands next is what the plan puts next, and the stage behind it goes by the plan and the number that the value tells
pub record Puts (file codes : List ℕ) (nest : Nest) (stage : Stage) (plan : Plan) : Type 0 where
  pub x : L.Slot
  pub go : ℕ → Plan
  pub puts : plan ≡ put x go
  pub is : SlotIs file codes (slot_at nest stage) x
  pub left : stage.next + 1 < 2 ^ 32 → (at told : ℕ) → Heard file x at told → StageIs file codes nest (after_of file at nest stage) (go told)

module _ (file codes : List ℕ) where
  pub begins : (nest : Nest) (slots : List L.Slot) → SlotsAre file codes nest slots → NestIs file codes nest (each slots)
  unfolding font_slots page_slots
  begins (Each s n) slots w = record { slots = slots; are = w; counts = sym (ap length w.are ∙ length-replicate n w.slot); left = refl }
  begins (Pairs s t n) slots w = record { slots = slots; are = w; counts = sym (ap length w.are ∙ length_pairs n w.key w.value); left = refl }
  begins Font slots w = record { slots = slots; are = w; counts = sym (ap length w); left = refl }
  begins Page slots w = record { slots = slots; are = w; counts = sym (ap length w); left = refl }
  begins (Mesh kind) slots w = absurd w

  pub below-plan : (below : Below) (slots : List L.Slot) → BelowIs file codes below slots → BelowPlan file codes below (each slots)
  unfolding each
  below-plan (Nothing padding) slots w = ap each w
  below-plan (SimpleRun run) slots w = record { slots = slots; are = refl; alike = w.0; lawful = w.1 }
  below-plan (Nested nest) slots w = begins nest slots w

  -- the fields of a mesh type
  pub mesh_nest : (m : Target.Mesh) → NestIs file codes (Mesh (mesh_kind m)) (plan_of m)
  mesh_nest m = record { follows = mesh_follows m; counts = refl }

  turn_child : (s t : Slot) (n i : ℕ) (slots : List L.Slot) → PairsAre file codes s t n slots → i < length slots → (b : Bool) → (i % 2 == 0) ≡ b → ChildIs file codes slots i (cond b s t)
  turn_child s t n i slots w h true e =
      let l : length slots ≡ 2 * n = ap length w.are ∙ length_pairs n w.key w.value in
      record { slot = w.key; at = rw w.are (pair_even n i w.key w.value w.key (omega arith) (eqb-true (i % 2) 0 e)); is = w.key_is }
  turn_child s t n i slots w h false e =
      let l : length slots ≡ 2 * n = ap length w.are ∙ length_pairs n w.key w.value in
      record { slot = w.value; at = rw w.are (pair_odd n i w.key w.value w.value (omega arith) (eqb-false (i % 2) 0 e)); is = w.value_is }

  each_child : (s : Slot) (n i : ℕ) (slots : List L.Slot) → EachIs file codes s n slots → i < length slots → ChildIs file codes slots i s
  each_child s n i slots w h =
      let l : length slots ≡ n = ap length w.are ∙ length-replicate n w.slot in
      record { slot = w.slot; at = rw w.are (get_or-replicate n i w.slot w.slot (omega arith)); is = w.is }

  child_is : Prelude codes → (nest : Nest) (slots : List L.Slot) (stage : Stage) → SlotsAre file codes nest slots → stage.next < length slots → ChildIs file codes slots stage.next (slot_at nest stage)
  child_is p (Each s n) slots stage w h = each_child s n stage.next slots w h
  child_is p (Pairs s t n) slots stage w h = turn_child s t n stage.next slots w h (stage.next % 2 == 0) refl
  child_is p Font slots stage w h = rw w (font_child_lem file codes p stage.next (rw w at h))
  child_is p Page slots stage w h = rw w (page_child_lem file codes p stage.next (rw w at h))
  child_is p (Mesh kind) slots stage w h = absurd w

  module _ (nest : Nest) (stage : Stage) (plan : Plan) (w : ListStage file codes nest stage plan) where
    list_ends : stage.count ≤ stage.next → plan ≡ stop
    unfolding each
    list_ends h = w.left ∙ ap each (drop_of_length-le w.slots {i = stage.next} (omega (arith, h, w.counts)))

    -- the slots behind the one that stands next
    behind : stage.next + 1 < 2 ^ 32 → ListStage file codes nest (onward_of stage) (each (drop (suc stage.next) w.slots))
    behind f = record { slots = w.slots; are = w.are; counts = w.counts; left = let z : (stage.next + 1) % 2 ^ 32 ≡ suc stage.next = omega (arith, f) in rw z refl }

    list_goes : Prelude codes → stage.next < stage.count
        → ((at : ℕ) (q : Plan) → ListStage file codes nest (onward_of stage) q → StageIs file codes nest (after_of file at nest stage) q) → Puts file codes nest stage plan
    unfolding each
    list_goes p h on =
        let i : stage.next < length w.slots = omega (arith, h, w.counts) in
        let c = child_is p nest w.slots stage w.are i in
        record {
          x = c.slot;
          go = λ n. each (drop (suc stage.next) w.slots);
          puts = w.left ∙ rw (drop-cons w.slots stage.next c.slot i, c.at) refl;
          is = c.is;
          left = λ f at told heard. on at (each (drop (suc stage.next) w.slots)) (behind f);
        }

  module _ (kind : ℕ) (stage : Stage) (plan : Plan) (w : MeshStage stage plan) where
    by_end : (b : Bool) → ended stage.mesh ≡ b → stage.count ≡ cond b stage.next (stage.next + 1)
    by_end b e = w.counts ∙ ap (λ (x : Bool). cond x stage.next (stage.next + 1)) e

    mesh_ends : stage.count ≤ stage.next → plan ≡ stop
    mesh_ends h = go (ended stage.mesh) refl where
      go : (b : Bool) → ended stage.mesh ≡ b → plan ≡ stop
      go true e = ends-stop w.follows e
      go false e = absurd (omega (arith, h, by_end false e))

    mesh_goes : Prelude codes → stage.next < stage.count → Puts file codes (Mesh kind) stage plan
    mesh_goes p h =
        let n = goes_on w.follows (still (ended stage.mesh) refl) in
        record {
          x = Meshes.slot_at stage.mesh;
          go = n.go;
          puts = n.puts;
          is = field_child_lem file codes p (field_of stage.mesh) (field-lawful stage.mesh);
          left = λ f at told heard. record { follows = n.follows (told_at file stage.mesh.step at) told (heard stage.mesh.step); counts = refl };
        } where
          still : (b : Bool) → ended stage.mesh ≡ b → ended stage.mesh ≡ false
          still true e = absurd (omega (arith, h, by_end true e))
          still false e = e

  -- nothing stands next
  pub ends : (nest : Nest) (stage : Stage) (plan : Plan) → StageIs file codes nest stage plan → stage.count ≤ stage.next → plan ≡ stop
  ends (Each s n) stage plan w h = list_ends (Each s n) stage plan w h
  ends (Pairs s t n) stage plan w h = list_ends (Pairs s t n) stage plan w h
  ends Font stage plan w h = list_ends Font stage plan w h
  ends Page stage plan w h = list_ends Page stage plan w h
  ends (Mesh kind) stage plan w h = mesh_ends kind stage plan w h

  -- a value stands next
  pub goes : (nest : Nest) (stage : Stage) (plan : Plan) → StageIs file codes nest stage plan → Prelude codes → stage.next < stage.count → Puts file codes nest stage plan
  goes (Each s n) stage plan w p h = list_goes (Each s n) stage plan w p h (λ at q v. v)
  goes (Pairs s t n) stage plan w p h = list_goes (Pairs s t n) stage plan w p h (λ at q v. v)
  goes Font stage plan w p h = list_goes Font stage plan w p h (λ at q v. v)
  goes Page stage plan w p h = list_goes Page stage plan w p h (λ at q v. v)
  goes (Mesh kind) stage plan w p h = mesh_goes kind stage plan w p h

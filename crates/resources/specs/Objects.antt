-- The rows that reading the objects of a file leaves in the words are those that the last pass takes. Assumes nothing.
use Rattle.std.specs.Prelude.{◌≡◌, refl, ℕ, suc, ◌*◌, ◌≤◌, replicate}
use Rattle.std.proofs.Math.Path.{ap}
use Rattle.std.proofs.Common.{◌∙◌, arith}
use mathlib.Core.List.{List}
use Rattle.std.proofs.Math.ListN.{length, length-replicate}
use Rattle.layout.specs.Target.{Target, object as anything}
use Rattle.layout.specs.Resource.{Within}
use Rattle.layout.specs.Rows.{width}
use Rattle.layout.specs.Slot.{object}
use Rattle.layout.specs.Tree.{count, size}
use Rattle.layout.specs.File.{objects_plan}
use Rattle.reading.specs.Answer.{read}
use Rattle.reading.specs.Reads.{Small}
use Rattle.reading.specs.Resource.{length-kinds}
use Rattle.reading.specs.Drafts.{Draft}
use Rattle.reading.specs.Walk.{Taken}
use Rattle.reading.specs.Sound.{Read}
use Rattle.reading.proofs.Sound.{walks_sound}
use Rattle.reading.specs.File.{objects_at, root_kinds}
use Rattle.reading.specs.References.{roots_are, rows-length, slots-count}
use Rattle.table.specs.declared.Grid.{Grid}
use Rattle.walked.specs.Written.{written}
use Rattle.resources.specs.Marked.{marked-rows}
use Rattle.resources.specs.Settled.{Drafted}

module _ (g : Grid) (file : List ℕ) (readers : List Target) (shared : ℕ) (small : Small file) (few : shared ≤ 256) where
  read_drafted : (w : List ℕ) (at : ℕ) (a : Taken) (e : ℕ) → Read file readers shared g.room small 32 (objects_plan shared) at 0 0 a e → width * g.room ≤ length w
      → Drafted g (written g w 0 a.1) a.0 a.1 w
  unfolding objects_plan
  read_drafted w at a e r h =
      let rows_are = r.rows_are in
      let l : length a.1 ≡ size a.2 = ap length rows_are ∙ rows-length readers (Within shared) (objects_plan shared) a.2 r.bytes r.laid at 0 0 in
      let n : a.0 ≡ length a.1 = omega (arith, r.used_is) in
      let k : length (root_kinds a.1) ≡ count a.2 =
      ap (λ (ds : List Draft). length (root_kinds ds)) rows_are
      ∙ ap length (roots_are readers (Within shared) (objects_plan shared) a.2 r.bytes r.laid at 0) ∙ length-kinds a.2 in
      let m : count a.2 ≡ length (replicate (suc shared) (object anything)) = slots-count readers (Within shared) (replicate (suc shared) (object anything)) a.2 r.bytes r.laid in
      record {
        stand = refl;
        count = n;
        fits = omega (arith, n, r.room_left (omega arith));
        long = h;
        marked = rw rows_are (marked-rows readers (Within shared) (objects_plan shared) a.2 r.bytes r.laid at 0 0);
        few = omega (arith, length-replicate (suc shared) (object anything));
      }

  -- what stands in the words after the objects of a file were read
  pub objects-drafted : (w : List ℕ) (at : ℕ) (a : Taken) (e : ℕ) → objects_at file g.room readers shared at ≡ read a e → width * g.room ≤ length w
      → Drafted g (written g w 0 a.1) a.0 a.1 w
  unfolding objects_at
  objects-drafted w at a e q h = read_drafted w at a e ((walks_sound file readers shared g.room small 32 (objects_plan shared) at 0 0).got q) h

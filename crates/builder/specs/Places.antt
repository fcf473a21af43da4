-- The place that the one number tells is the refusal's own, but for 32's, which has no bound. Assumes nothing.
use Rattle.std.proofs.Math.Path.{◌≡◌, sym}
use Rattle.std.specs.Prelude.{refl, List, ℕ, ◌+◌, ◌*◌, ◌<◌}
use Rattle.std.proofs.Common.{◌∙◌, arith}
use Rattle.reading.specs.Reads.{Small}
use Rattle.reading.specs.File.{Load, refusal}
use Rattle.reading.proofs.Refusals.{refusal-place}
use Rattle.reading.specs.Output as rewritten
use Rattle.readers.specs.Judged.{judged_name, judges, within-name}
use Rattle.enums.specs.Judge.{Judgement, lawful, enums_at}
use Rattle.enums.specs.Judge.{refused as list-refused}
use Rattle.enums.specs.Lists.{list-refusal}
use Rattle.load.specs.Under.{load_under, load_lawful, load_refused-list}
use Rattle.shortest.specs.Theorems.{rewrite_refusal}
use Rattle.rewrite.specs.Whole.{rewrite_under}
use Rattle.rewrite.specs.Loaded.{rewrite_lawful, rewrite_refused_list}
use Rattle.builder.specs.Packed.{code, packed, rewrite_packed}

exact : (number place : ℕ) → place < 4294967296 → code number place ≡ number * 4294967296 + place
unfolding code
exact number place h = omega arith

-- 01: "refusal (or 0) times 2 to the 32, plus place", of every refusal but 32
module _ (enums file : List ℕ) (words number place : ℕ) (other : number ≡ 32 → ⊥) where
  pub load_exactly : load_under enums file words ≡ refusal number place → packed (load_under enums file words) ≡ number * 4294967296 + place
  unfolding packed
  load_exactly e = rw e (exact number place (go (enums_at enums) refl)) where
    go : (j : Judgement) → enums_at enums ≡ j → place < 4294967296
    go (list-refused n i) q =
        let z : ◌≡◌ {A = Load} (refusal number place) (refusal n i) = sym e ∙ load_refused-list enums file words q in
        let m : number ≡ n = cc in
        absurd (other (m ∙ list-refusal enums q))
    go (lawful es) q = omega (arith, (refusal-place (judged_name es) (within-name es) file words number place (sym (load_lawful enums file words es q) ∙ e)).1)

  pub rewrite_exactly : Small file → (out : ℕ) → rewrite_under enums file words out ≡ rewritten.refusal number place
      → rewrite_packed (rewrite_under enums file words out) ≡ number * 4294967296 + place
  unfolding rewrite_packed
  rewrite_exactly small out e = rw e (exact number place (go (enums_at enums) refl)) where
    go : (j : Judgement) → enums_at enums ≡ j → place < 4294967296
    go (list-refused n i) q =
        let z : ◌≡◌ {A = rewritten.Rewritten} (rewritten.refusal number place) (rewritten.refusal n i) = sym e ∙ rewrite_refused_list enums file words out q in
        let m : number ≡ n = cc in
        absurd (other (m ∙ list-refusal enums q))
    go (lawful es) q =
        omega (arith, (rewrite_refusal es (judged_name es) (judges es) (within-name es) file small words out number place (sym (rewrite_lawful enums file words out es q) ∙ e)).1)

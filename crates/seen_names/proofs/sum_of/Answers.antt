use Rattle.std.proofs.Common.{◌≡◌, refl, sym, ap, ◌∙◌, arith, ◌∷◌, ℕ, suc, ◌+◌, drop, get_or}
use Rattle.std.proofs.Math.Seq.{drop-cons}
use Rattle.std.proofs.Math.ListN.{length-drop, drop_of_length-le}
use Rattle.seen_names.specs.Sum.{sum_from, sum_of}
use Rattle.seen_names.proofs.Sums.{sum-each, sum-four, sum-none}
use Rattle.seen_names.proofs.sum_of.Goals as goal

pub loop-four-init : goal.loop-four-init
unfolding sum_of
loop-four-init c = (omega arith, refl)

pub loop-four-preserved : goal.loop-four-preserved
loop-four-preserved c =
    let rest = c.loop-four.rest.now in
    let e = c.in-Some.ensures.cases in (
      c.step-sum.ensures.1,
      rw (c.step-sum.ensures.0, c.from_le_bytes.ensures, e.0, e.1) (sym (sum-four c.loop-four.sum rest (omega (arith, e.2))) ∙ c.loop-four.invariant.1),
    )

pub loop-b-preserved : goal.loop-b-preserved
loop-b-preserved c =
    let s = c.loop-four.rest.now in
    let i = c.loop-b.b-index in
    let z : suc i ≡ i + 1 = omega arith in
    let d : drop i s ≡ get_or s i 0 ∷ drop (i + 1) s = drop-cons s i 0 c.loop-b-test.true ∙ ap (λ (k : ℕ). get_or s i 0 ∷ drop k s) z in
    let l = length-drop (i + 1) s in (
      c.step-sum-in-loop-b.ensures.1,
      c.loop-b.invariant.1,
      rw c.step-sum-in-loop-b.ensures.0 (sym (sum-each c.loop-b.sum (get_or s i 0) (drop (i + 1) s) (omega (arith, c.loop-b.invariant.1))) ∙ ap (sum_from c.loop-b.sum) (sym d) ∙ c.loop-b.invariant.2),
    )

pub returns : goal.returns
returns c =
    let s = c.loop-four.rest.now in
    (sym (sum-none c.loop-b.sum) ∙ ap (sum_from c.loop-b.sum) (sym (drop_of_length-le s c.loop-b-test.false)) ∙ c.loop-b.invariant.2, c.loop-b.invariant.0)

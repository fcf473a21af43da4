use Rattle.std.specs.Prelude.{◌≡◌, List, ℕ, ◌+◌, set, get_or}
use Rattle.std.proofs.Common.{refl, ap, ◌∙◌, arith}
use Rattle.pack_sums.specs.Sum.{sums_to, fits_word, sums_word, sums_on, sums_ends}
use Rattle.pack_sums.proofs.add_all.Goals as goal

pub loop-i-init : goal.loop-i-init
unfolding sums_to
loop-i-init c = refl

pub overflow_add-into : goal.overflow_add-into
overflow_add-into c =
    let a = c.args in
    let e : get_or c.loop-i.into c.loop-i.i 0 ≡ get_or a.into.now c.loop-i.i 0 = ap (λ (l : List ℕ). get_or l c.loop-i.i 0) c.loop-i.invariant ∙ sums_word c.loop-i.i a.into.now a.other.now in
    omega (arith, e, fits_word c.loop-i.i a.into.now a.other.now c.requires (omega arith) (omega arith))

pub loop-i-preserved : goal.loop-i-preserved
loop-i-preserved c =
    let a = c.args in
    ap (λ (l : List ℕ). set l c.loop-i.i (get_or l c.loop-i.i 0 + get_or a.other.now c.loop-i.i 0)) c.loop-i.invariant ∙ sums_on c.loop-i.i a.into.now a.other.now (omega arith) (omega arith)

pub returns : goal.returns
returns c = let a = c.args in c.loop-i.invariant ∙ sums_ends c.loop-i.i a.into.now a.other.now (omega arith)

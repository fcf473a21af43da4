use Rattle.std.proofs.Common.{◌≡◌, sym, ◌∙◌, arith, ◌%◌, ◌||◌, ◌&&◌, eqb, leb, true, false}
use Rattle.std.proofs.lemmas.Bool.Decides.{nat_tests}
use Rattle.layout.specs.Complaint.{unless}
use Rattle.targets.proofs.Loops.{no_first, some_first, enum_is, none_bad}
use Rattle.targets.proofs.bad_enum.Goals as goal

pub returns-in_err-w : goal.returns-in_err-w
returns-in_err-w c = c.from_residual.ensures ∙ (none_bad (no_first _ c.in_err-w.ensures.value)).0

pub returns-in_default : goal.returns-in_default
unfolding unless
returns-in_default c =
    let w = c.in_ok-w.w.now in
    let q : (eqb (w % 256) 0 || (leb 60 (w % 256) && leb (w % 256) 63)) ≡ false = grind (arith, nat_tests) in
    sym (enum_is w false (some_first _ _ c.in_ok-w.ensures.value) q)

pub returns-in-0 : goal.returns-in-0
unfolding unless
returns-in-0 c =
    let w = c.in_ok-w.w.now in
    let q : (eqb (w % 256) 0 || (leb 60 (w % 256) && leb (w % 256) 63)) ≡ true = grind (arith, nat_tests) in
    sym (enum_is w true (some_first _ _ c.in_ok-w.ensures.value) q)

pub returns-in-0-2 : goal.returns-in-0-2
unfolding unless
returns-in-0-2 c =
    let w = c.in_ok-w.w.now in
    let q : (eqb (w % 256) 0 || (leb 60 (w % 256) && leb (w % 256) 63)) ≡ true = grind (arith, nat_tests) in
    sym (enum_is w true (some_first _ _ c.in_ok-w.ensures.value) q)

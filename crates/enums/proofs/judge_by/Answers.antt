use Rattle.std.proofs.Common.{rules, refl, sym, ◌∙◌, ◌+◌}
use Rattle.std.proofs.lemmas.Bool.{not-true, not-false, eqb-true, eqb-false}
use Rattle.names.proofs.Laws.{rest}
use Rattle.enums.proofs.Judging.{judging_start, judged-end, judged_cut, judged-bad, judged_again, judged_next, noted_before}
use Rattle.enums.proofs.judge_by.Goals as goal

pub loop-count-init : goal.loop-count-init
loop-count-init c = (refl, judging_start _ _)

pub returns-then-behind-count : goal.returns-then-behind-count
returns-then-behind-count c = rw c.at.ensures (judged_cut (rw c.in-Some.ensures.cases.0 at c.loop-count.invariant.1) c.if-behind-count.true)

pub returns-then-not-is_enum_type : goal.returns-then-not-is_enum_type
returns-then-not-is_enum_type c =
    rw c.at-then-not-is_enum_type.ensures
    (judged-bad (rw c.in-Some.ensures.cases.0 at c.loop-count.invariant.1) c.if-behind-count.false (sym c.is_enum_type.ensures ∙ c.if-not-is_enum_type.true))

pub returns-then-listed : goal.returns-then-listed
returns-then-listed c =
    let x = c.in-Some.ensures.cases.0 in
    let e = rw x at (c.listed.ensures.value (noted_before c.loop-count.invariant.1)) in
    rw c.at-then-listed.ensures
    (judged_again (rw x at c.loop-count.invariant.1) c.if-behind-count.false (sym c.is_enum_type.ensures ∙ c.if-not-is_enum_type.false)
    (eqb-false _ _ (not-true _ (sym e ∙ c.if-listed.true))))

pub loop-count-preserved : goal.loop-count-preserved
loop-count-preserved c =
    let x = c.in-Some.ensures.cases.0 in
    let e = rw x at (c.listed.ensures.value (noted_before c.loop-count.invariant.1)) in
    let n = judged_next (rw x at c.loop-count.invariant.1) c.if-behind-count.false (sym c.is_enum_type.ensures ∙ c.if-not-is_enum_type.false)
    (eqb-true _ _ (not-false _ (sym e ∙ c.if-listed.false))) in
    (search rules, rw (rest c.in-Some.behind.now (c.in-Some.count.now + 1), c.listed.ensures.seen_after) n)

pub returns : goal.returns
returns c = judged-end c.loop-count.invariant.1 c.in_default.ensures.cases

use Rattle.std.proofs.Common.{sym, ap, ◌∙◌, arith, ne_eqb, ◌%◌}
use Rattle.layout.specs.Complaint.{unless}
use Rattle.targets.specs.Judge.{complaint}
use Rattle.targets.proofs.Loops.{empty, reader_is, none_bad}
use Rattle.targets.proofs.bad_reader.Goals as goal

pub returns-in_err-w : goal.returns-in_err-w
returns-in_err-w c = c.from_residual.ensures ∙ (none_bad (empty _ c.in_err-w.ensures.cases)).1

pub returns-in-79 : goal.returns-in-79
returns-in-79 c =
    let w = c.in_ok-w.w.now in
    c.bad_enum.ensures ∙ sym (ap complaint (reader_is w c.in_ok-w.ensures.cases.0) ∙ rw c.in-79.is)

pub returns-in-81 : goal.returns-in-81
returns-in-81 c =
    let w = c.in_ok-w.w.now in
    c.bad_arguments.ensures ∙ sym (ap complaint (reader_is w c.in_ok-w.ensures.cases.0) ∙ rw c.in-81.is)

pub returns-in_default : goal.returns-in_default
unfolding unless
returns-in_default c =
    let w = c.in_ok-w.w.now in
    c.bad_arguments-in_default.ensures ∙ sym (ap complaint (reader_is w c.in_ok-w.ensures.cases.0) ∙ rw (ne_eqb (w % 256) 79 (λ q. omega arith), ne_eqb (w % 256) 81 (λ q. omega arith), sym c.head_ok.ensures ∙ c.if-head_ok.true))

pub returns-in_default-2 : goal.returns-in_default-2
unfolding unless
returns-in_default-2 c =
    let w = c.in_ok-w.w.now in
    sym (ap complaint (reader_is w c.in_ok-w.ensures.cases.0) ∙ rw (ne_eqb (w % 256) 79 (λ q. omega arith), ne_eqb (w % 256) 81 (λ q. omega arith), sym c.head_ok.ensures ∙ c.if-head_ok.false))

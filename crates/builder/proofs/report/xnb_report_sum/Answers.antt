use borrow.Author.Rules.{rules}
use mathlib.Core.Path.{sym, ◌∙◌}
use Rattle.pack_figures.specs.Report.{sum_of}
use Rattle.builder.proofs.Reports.{sum-added, sum-refused}
use Rattle.builder.proofs.report.xnb_report_sum.Goals as goal

pub returns-in-Err : goal.returns-in-Err
returns-in-Err c =
    let a = c.args in
    record { value = sum-refused (sum_of a.into.now a.other.now) (sym c.in-Err.is ∙ c.sum.ensures.value); into_after = c.sum.ensures.into_after }

pub returns-in-Ok : goal.returns-in-Ok
returns-in-Ok c =
    let a = c.args in
    record { value = sum-added (sum_of a.into.now a.other.now) (sym c.in-Ok.is ∙ c.sum.ensures.value); into_after = c.sum.ensures.into_after }

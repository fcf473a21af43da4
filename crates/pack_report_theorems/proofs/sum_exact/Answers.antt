use Rattle.pack_report_theorems.proofs.Laws.{join}
use Rattle.pack_report_theorems.proofs.sum_exact.Goals as goal

pub returns : goal.returns
returns c =
    let a = c.args in
    record { joins = join a.into.now a.other.now c.sum.ensures.value c.sum.ensures.into_after; value = c.sum.ensures.value }

use native.Mathlib.Omega.{arith}
use Rattle.reading.specs.Reads.{small_by_index}
use Rattle.two_runs.proofs.Laws.{same_number}
use borrow.Author.Rules.{rules}
use Rattle.two_runs.proofs.number_two.Goals as goal

pub returns : goal.returns
returns c =
    let a = c.args in
    let small = small_by_index a.file.now (λ i h. omega (arith, c.type_inv.file i)) in
    record { numbers_alike = λ r. same_number a.file.now a.other.now small r c.xnb_load-first.ensures c.xnb_load-second.ensures; number_is = c.xnb_load-first.ensures; number_is_2 = c.xnb_load-second.ensures }

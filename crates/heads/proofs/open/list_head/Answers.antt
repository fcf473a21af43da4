use Rattle.std.proofs.Common.{sym, arith}
use Rattle.reading.specs.Reads.{small_by_index}
use Rattle.reading.specs.Little.{little_next}
use Rattle.heads.proofs.open.list_head.Goals as goal

pub overflow_cast-count : goal.overflow_cast-count
overflow_cast-count c =
    let s = c.args.file.now in
    omega (arith, (little_next s (small_by_index s (λ i h. omega (arith, c.type_inv.file i))) 4 _ _ (omega arith) (sym c.in_ok-count.ensures)).2)

use Rattle.std.proofs.Common.{arith}
use Rattle.reading.specs.Reads.{small_by_index}
use Rattle.reading.specs.Seven.{seven_at, seven_next}
use Rattle.numbers.specs.Padded.{number_read}
use Rattle.objects.proofs.start.object_start.Goals as goal

pub overflow_cast-id : goal.overflow_cast-id
overflow_cast-id c =
    let a = c.args in
    let n = number_read a.at (seven_at a.file.now a.at) c.in_ok-number.ensures in
    omega (arith, (seven_next a.file.now (small_by_index a.file.now (λ i h. omega (arith, c.type_inv.file i))) _ n.0).2)

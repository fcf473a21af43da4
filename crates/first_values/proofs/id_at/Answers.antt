use Rattle.std.proofs.Common.{refl, arith}
use Rattle.reading.specs.Reads.{small_by_index}
use Rattle.reading.specs.Seven.{seven_at, seven_next}
use Rattle.numbers.specs.Padded.{number_read}
use Rattle.first_values.specs.Looks.{byte_numbered}
use Rattle.first_values.proofs.id_at.Goals as goal

pub returns-then-id-lt128 : goal.returns-then-id-lt128
returns-then-id-lt128 c = byte_numbered c.args.file.now c.args.at _ c.if-file-at.false refl c.if-id-lt128.true refl refl

pub overflow_cast-result : goal.overflow_cast-result
overflow_cast-result c =
    let a = c.args in
    let n = number_read a.at (seven_at a.file.now a.at) c.in-Ok.ensures in
    omega (arith, (seven_next a.file.now (small_by_index a.file.now (λ i h. omega (arith, c.type_inv.file i))) _ n.0).2)

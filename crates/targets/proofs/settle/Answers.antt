use mathlib.Core.Path.{ap}
use native.Mathlib.Omega.{arith}
use lib.ListN.{set}
use Rattle.targets.proofs.Loops.{too_few, no_enum, some-enum}
use Rattle.targets.proofs.settle.Goals as goal

pub returns-then-end-used-lt2 : goal.returns-then-end-used-lt2
returns-then-end-used-lt2 c = too_few _ _ _ (omega (arith, c.requires))

pub returns-then-codes-used-ne-ENUM_READER : goal.returns-then-codes-used-ne-ENUM_READER
returns-then-codes-used-ne-ENUM_READER c = no_enum _ _ _ (omega (arith, c.requires, c.if-end-used-lt2.false)) c.if-codes-used-ne-ENUM_READER.true

pub returns : goal.returns
returns c =
    let args = c.args in
    some-enum _ _ _ (omega (arith, c.requires, c.if-end-used-lt2.false)) c.if-codes-used-ne-ENUM_READER.false (ap (set args.codes.now args.used) c.enum_word.ensures)

use native.Mathlib.Omega.{arith}
use Rattle.xml_import.proofs.Lengths.{one, two, three, four, five}
use Rattle.xml_import.proofs.length_size.Goals as goal

pub returns-then-n-lt128 : goal.returns-then-n-lt128
returns-then-n-lt128 c = one _ (omega arith)

pub returns-then-n-lt16384 : goal.returns-then-n-lt16384
returns-then-n-lt16384 c = two _ (omega arith) (omega arith)

pub returns-then-n-lt2097152 : goal.returns-then-n-lt2097152
returns-then-n-lt2097152 c = three _ (omega arith) (omega arith)

pub returns-then-n-lt268435456 : goal.returns-then-n-lt268435456
returns-then-n-lt268435456 c = four _ (omega arith) (omega arith)

pub returns : goal.returns
returns c = five _ (omega arith)

use native.Mathlib.Omega.{arith}
use lib.ListN.{length}
use mathlib.Core.Path.{refl}
use Rattle.xml_import.specs.Puts.{TextOf}
use Rattle.xml_import.proofs.Lengths.{some}
use Rattle.xml_import.proofs.Strings.{last_at}
use Rattle.xml_import.proofs.item_at.Goals as goal

pub text_bytes-requires : goal.text_bytes-requires
text_bytes-requires c =
    let v = c.requires.2 c.if-items-eq1.true in
    omega (arith, v.long, some (length v.t) v.small)

pub overflow_sub-result : goal.overflow_sub-result
overflow_sub-result c =
    let v = c.requires.2 c.if-items-eq1.true in
    omega (arith, (last_at v c.requires.0 refl).0)

pub returns-then-items-eq1 : goal.returns-then-items-eq1
unfolding TextOf
returns-then-items-eq1 c =
    let v = c.requires.2 c.if-items-eq1.true in
    (last_at v c.requires.0 (c.text_bytes.ensures (length v.t) v.small (omega (arith, v.long)))).1

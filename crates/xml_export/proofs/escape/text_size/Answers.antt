use mathlib.Core.Path.{◌≡◌}
use Prim.Native.Nat.{◌+◌, ◌-◌}
use native.Mathlib.Omega.{arith}
use lib.ListN.{drop}
use Rattle.xml_export.proofs.Escapes.{quiet_size, none-size}
use Rattle.xml_export.proofs.escape.text_size.Goals as goal

pub returns-then-n-eq0 : goal.returns-then-n-eq0
returns-then-n-eq0 c =
    let a' = c.args in
    none-size (drop a'.first a'.file.now) a'.n c.if-n-eq0.true

pub returns-then-quiet_short : goal.returns-then-quiet_short
returns-then-quiet_short c =
    let a' = c.args in
    quiet_size a'.file.now a'.n a'.first c.requires.1 (c.quiet_short.ensures c.if-quiet_short.true)

pub returns : goal.returns
returns c =
    let a' = c.args in
    let z : a'.first + a'.n - a'.first ≡ a'.n = omega arith in
    rw z at c.filled_size.ensures

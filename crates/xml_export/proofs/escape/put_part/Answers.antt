use mathlib.Core.Path.{◌≡◌}
use Prim.Native.Nat.{◌+◌, ◌-◌}
use native.Mathlib.Omega.{arith}
use lib.ListN.{drop}
use Rattle.xml_export.proofs.Escapes.{plain-put, no_put}
use Rattle.xml_export.proofs.escape.put_part.Goals as goal

pub returns-then-n-eq0 : goal.returns-then-n-eq0
returns-then-n-eq0 c =
    let a' = c.args in
    no_put (drop a'.first a'.file.now) a'.n c.if-n-eq0.true a'.out.now a'.to

pub returns-then-plain_short : goal.returns-then-plain_short
returns-then-plain_short c =
    let a' = c.args in
    plain-put a'.file.now a'.n a'.first c.requires.0 (c.plain_short.ensures c.if-plain_short.true) a'.out.now a'.to c.copy.ensures.out_after

pub returns : goal.returns
returns c =
    let a' = c.args in
    let z : a'.first + a'.n - a'.first ≡ a'.n = omega arith in
    rw z at c.put_text.ensures

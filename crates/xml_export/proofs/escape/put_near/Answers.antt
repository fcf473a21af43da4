use Rattle.std.proofs.Common.{◌≡◌, ◌+◌, ◌-◌, arith}
use Rattle.xml_escape.specs.Wrote.{put_copy}
use Rattle.xml_export.proofs.Escapes.{put_over}
use Rattle.xml_export.proofs.escape.put_near.Goals as goal

pub returns-then-n-lt16 : goal.returns-then-n-lt16
returns-then-n-lt16 c =
    let a = c.args in
    put_copy a.text.now a.from a.n c.requires.0 c.copy.ensures.out_after

pub returns : goal.returns
returns c =
    let a = c.args in
    let y : a.from + 16 - a.from ≡ 16 = omega arith in
    let z : a.from + (a.n - 16) + 16 - (a.from + (a.n - 16)) ≡ 16 = omega arith in
    put_over a.text.now a.from a.n 16 a.to (omega (arith, c.if-n-lt16.false)) (omega (arith, c.requires.2)) c.requires.0 (rw y at c.put_slice.ensures) (rw z at c.put_slice-2.ensures)

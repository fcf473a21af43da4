use native.Mathlib.Omega.{arith}
use Rattle.xml_import.proofs.Writing.{start, ended}
use Rattle.xml_import.proofs.Wholes.{whole-put}
use Rattle.xml_import.proofs.put_taken.Goals as goal

pub returns-then-text-eq0 : goal.returns-then-text-eq0
returns-then-text-eq0 c = ended (start c.requires.0) (omega (arith, c.if-text-eq0.true))

pub returns-then-text : goal.returns-then-text
returns-then-text c =
    let a = c.args in
    whole-put a.text.xml.now a.out.now a.text.at a.to a.text.size (c.requires.2 c.if-text.true) c.copy.ensures.out_after

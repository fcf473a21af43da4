use Rattle.std.proofs.Common.{arith, refl}
use Rattle.xml_import.proofs.Characters.{amp_spelled, lt_spelled, gt_spelled, quot_spelled}
use Rattle.xml_import.proofs.Words.{amp_stands, lt_stands, gt_stands, quot_stands}
use Rattle.xml_import.proofs.character.entity_at.Goals as goal

pub returns-then-four_at : goal.returns-then-four_at
returns-then-four_at c =
    let a = c.args in
    amp_spelled a.xml.now a.at (omega (arith, c.requires.0)) (amp_stands a.xml.now a.at (omega (arith, c.requires.0, c.if-xml-at-lt6.false)) c.requires.1 (c.if-four_at.ensures refl))

pub returns-then-four_at-2 : goal.returns-then-four_at-2
returns-then-four_at-2 c =
    let a = c.args in
    lt_spelled a.xml.now a.at (omega (arith, c.requires.0)) (lt_stands a.xml.now a.at (omega (arith, c.requires.0, c.if-xml-at-lt6.false)) (c.if-four_at-2.ensures refl))

pub returns-then-four_at-3 : goal.returns-then-four_at-3
returns-then-four_at-3 c =
    let a = c.args in
    gt_spelled a.xml.now a.at (omega (arith, c.requires.0)) (gt_stands a.xml.now a.at (omega (arith, c.requires.0, c.if-xml-at-lt6.false)) (c.if-four_at-3.ensures refl))

pub returns-then-four_at-5 : goal.returns-then-four_at-5
returns-then-four_at-5 c =
    let a = c.args in
    quot_spelled a.xml.now a.at (omega (arith, c.requires.0))
    (quot_stands a.xml.now a.at (omega (arith, c.requires.0, c.if-xml-at-lt6.false)) (c.if-four_at-4.ensures refl) (c.if-four_at-5.ensures refl))

use Rattle.xml_export.proofs.Written.{too_few, other_first, other_second, by_third}
use Rattle.xml_export.proofs.escape.noncharacter_at.Goals as goal

pub returns-then-text-at-lt3 : goal.returns-then-text-at-lt3
returns-then-text-at-lt3 c = let a = c.args in too_few a.text.now a.at c.if-text-at-lt3.true

pub returns-then-text-at : goal.returns-then-text-at
returns-then-text-at c = let a = c.args in other_first a.text.now a.at c.requires c.if-text-at-lt3.false c.if-text-at.true

pub returns-then-text-at-2 : goal.returns-then-text-at-2
returns-then-text-at-2 c = let a = c.args in other_second a.text.now a.at c.requires c.if-text-at-lt3.false c.if-text-at.false c.if-text-at-2.true

pub returns : goal.returns
returns c = let a = c.args in by_third a.text.now a.at c.requires c.if-text-at-lt3.false c.if-text-at.false c.if-text-at-2.false

use Rattle.key_repeats.specs.Gathered.{other_noted, full-noted, string-noted}
use Rattle.key_repeats.proofs.note.Goals as goal

pub returns-then-kind-ne-STRING : goal.returns-then-kind-ne-STRING
returns-then-kind-ne-STRING c = let a = c.args in other_noted a.keys.now a.m a.row a.kind c.if-kind-ne-STRING.true

pub returns-then-keys-i : goal.returns-then-keys-i
returns-then-keys-i c = let a = c.args in full-noted a.keys.now a.m a.row a.kind c.if-kind-ne-STRING.false c.if-keys-i.true

pub returns : goal.returns
returns c = let a = c.args in string-noted a.keys.now a.m a.row a.kind c.if-kind-ne-STRING.false

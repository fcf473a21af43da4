use Rattle.std.proofs.Common.{arith, refl}
use Rattle.xml_export.proofs.Escapes.{letter_alone, other_alone, entity-put, amp_is, less_is, more_is, quote_is, amp_long, less_long, more-long, quote_long}
use Rattle.xml_export.proofs.escape.put_entity.Goals as goal

pub put-requires : goal.put-requires
put-requires c = omega (arith, c.requires, amp_long c.args.b c.if-b-eq38.true)

pub returns-then-b-eq38 : goal.returns-then-b-eq38
returns-then-b-eq38 c = entity-put c.args.b _ (amp_is c.args.b c.if-b-eq38.true) refl c.put.ensures

pub returns-then-b-gt62 : goal.returns-then-b-gt62
returns-then-b-gt62 c = (letter_alone c.args.b c.if-b-gt62.true, refl)

pub put-requires-then-b-eq60 : goal.put-requires-then-b-eq60
put-requires-then-b-eq60 c = omega (arith, c.requires, less_long c.args.b c.if-b-eq60.true)

pub returns-then-b-eq60 : goal.returns-then-b-eq60
returns-then-b-eq60 c = entity-put c.args.b _ (less_is c.args.b c.if-b-eq60.true) refl c.put-then-b-eq60.ensures

pub put-requires-then-b-eq62 : goal.put-requires-then-b-eq62
put-requires-then-b-eq62 c = omega (arith, c.requires, more-long c.args.b c.if-b-eq62.true)

pub returns-then-b-eq62 : goal.returns-then-b-eq62
returns-then-b-eq62 c = entity-put c.args.b _ (more_is c.args.b c.if-b-eq62.true) refl c.put-then-b-eq62.ensures

pub put-requires-then-b-eq34 : goal.put-requires-then-b-eq34
put-requires-then-b-eq34 c = omega (arith, c.requires, quote_long c.args.b c.if-b-eq34.true)

pub returns-then-b-eq34 : goal.returns-then-b-eq34
returns-then-b-eq34 c = entity-put c.args.b _ (quote_is c.args.b c.if-b-eq34.true) refl c.put-then-b-eq34.ensures

pub returns : goal.returns
returns c = (other_alone c.args.b c.if-b-eq38.false c.if-b-eq60.false c.if-b-eq62.false c.if-b-eq34.false, refl)

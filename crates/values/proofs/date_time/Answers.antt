-- `values::date_time` meets its contract. Assumes nothing.
use mathlib.Core.Path.{ap}
use Prim.Native.Nat.{◌%◌, ◌^◌}
use lib.ListN.{length}
use borrow.Author.Tests.{eq-eqb, ne_eqb, le-leb, lt-leb}
use Rattle.answers.specs.Told.{told}
use Rattle.reading.specs.Fixed.{is_date_time}
use Rattle.values.proofs.Laws.{no_refusal, eight_value}
use Rattle.values.proofs.date_time.Goals as goal

pub returns-then-own-ne8 : goal.returns-then-own-ne8
unfolding is_date_time
returns-then-own-ne8 c = rw (ne_eqb (length c.args.own.now) 8 c.if-own-ne8.true)

pub returns-then-n-gt3155378975999999999 : goal.returns-then-n-gt3155378975999999999
unfolding is_date_time
returns-then-n-gt3155378975999999999 c =
    let own = c.args.own.now in
    let eight = c.if-own-ne8.false in
    let v = eight_value own eight c.little.ensures (ap told c.in-Ok.is) in
    rw (eq-eqb (length own) 8 eight, ← v, lt-leb (c.in-Ok.field-0.value % 2 ^ 62) 3155378975999999999 c.if-n-gt3155378975999999999.true)

pub returns-in_default : goal.returns-in_default
returns-in_default c =
    absurd (no_refusal c.args.own.now c.if-own-ne8.false c.little.ensures (ap told c.in_default.is))

pub returns : goal.returns
unfolding is_date_time
returns c =
    let own = c.args.own.now in
    let eight = c.if-own-ne8.false in
    let v = eight_value own eight c.little.ensures (ap told c.in-Ok.is) in
    rw (eq-eqb (length own) 8 eight, ← v, le-leb (c.in-Ok.field-0.value % 2 ^ 62) 3155378975999999999 c.if-n-gt3155378975999999999.false)

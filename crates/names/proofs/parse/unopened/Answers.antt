use Rattle.std.proofs.Common.{ap, arith}
use Rattle.answers.specs.Refusals.{refusal}
use Rattle.layout.specs.Text.{ascii}
use Rattle.names.specs.Parse.{unopened_number, unopened_at}
use Rattle.names.proofs.Laws.{shorter-either}
use Rattle.names.proofs.parse.unopened.Goals as goal

pub returns-then-not-digit : goal.returns-then-not-digit
unfolding unopened_number unopened_at ascii
returns-then-not-digit c =
    let b = rw (c.stands.ensures, c.stands-2.ensures) at c.if-not-digit.true in
    rw (c.at.ensures, shorter-either _ b, b) (ap (refusal 35) (omega arith))

pub returns-then-not-bracket : goal.returns-then-not-bracket
unfolding unopened_number unopened_at ascii
returns-then-not-bracket c =
    let b = rw (c.stands.ensures, c.stands-2.ensures) at c.if-not-digit.false in
    let d = rw (c.stands-3.ensures, c.stands-4.ensures) at c.if-not-bracket.true in
    rw (c.at-then-not-bracket.ensures, d, b) (ap (refusal 36) (omega arith))

pub returns : goal.returns
unfolding unopened_number unopened_at ascii
returns c =
    let b = rw (c.stands.ensures, c.stands-2.ensures) at c.if-not-digit.false in
    let d = rw (c.stands-3.ensures, c.stands-4.ensures) at c.if-not-bracket.false in
    rw (c.at-2.ensures, d, b) (ap (refusal 36) (omega arith))

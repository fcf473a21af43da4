use borrow.Author.Rules.{rules}
use native.Mathlib.Omega.{arith}
use borrow.Author.Tests.{eqb-true}
use Rattle.xml_import.proofs.Strings.{start, place_inside, next_item, known_next, last_next, no_failure, turn, ended}
use Rattle.xml_import.proofs.put_strings.Goals as goal

pub loop-k-init : goal.loop-k-init
loop-k-init c = start c.requires

pub overflow_sub-size : goal.overflow_sub-size
overflow_sub-size c = place_inside c.loop-k.invariant

pub item_at-requires : goal.item_at-requires
item_at-requires c =
    ((next_item c.loop-k.invariant c.loop-k-test.true).at_text, known_next c.loop-k.invariant c.loop-k-test.true, last_next c.loop-k.invariant c.loop-k-test.true)

pub returns-in_default : goal.returns-in_default
returns-in_default c = absurd (no_failure c.loop-k.invariant c.loop-k-test.true _ c.in_default.ensures)

pub overflow_sub-text : goal.overflow_sub-text
overflow_sub-text c = (turn c.loop-k.invariant c.loop-k-test.true _ c.in-Ok.ensures).after

pub overflow_add-text : goal.overflow_add-text
overflow_add-text c =
    let v = turn c.loop-k.invariant c.loop-k-test.true _ c.in-Ok.ensures in
    omega (arith, v.fits_word, v.inside_next)

pub put_string-to-requires : goal.put_string-to-requires
put_string-to-requires c =
    let v = turn c.loop-k.invariant c.loop-k-test.true _ c.in-Ok.ensures in
    (v.ready, v.small, v.room, λ e. v.whole_if (eqb-true _ _ e))

pub loop-k-preserved : goal.loop-k-preserved
loop-k-preserved c =
    let v = turn c.loop-k.invariant c.loop-k-test.true _ c.in-Ok.ensures in
    v.turns (search rules) c.put_string-to.ensures

pub returns : goal.returns
returns c = ended c.loop-k.invariant c.loop-k-test.false

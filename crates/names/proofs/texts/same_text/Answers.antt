-- `names::texts::same_text` meets its contract: what is left to compare is as good as the whole. Assumes nothing.
use Rattle.std.proofs.Common.{refl, sym, ◌∙◌}
use Rattle.names.proofs.Lookup.{alike-length, alike_is}
use Rattle.names.proofs.Ends.{ends_differ, ends_same}
use Rattle.names.proofs.texts.same_text.Goals as goal

pub returns-then-a-b : goal.returns-then-a-b
returns-then-a-b c = alike-length _ _ c.if-a-b.true

pub loop-x_front-init : goal.loop-x_front-init
loop-x_front-init c = record { size = c.if-a-b.false; same = refl }

pub returns-then-not-same_eight : goal.returns-then-not-same_eight
returns-then-not-same_eight c =
    let x = c.in-Some.ensures.cases in
    let y = c.in-Some-split_last_chunk.ensures.cases in
    ends_differ c.loop-x_front.invariant (record { front_is = x.0; end_is = x.1; size = x.2 }) (record { front_is = y.0; end_is = y.1; size = y.2 })
    (sym c.if-not-same_eight.true ∙ c.same_eight.ensures)

pub loop-x_front-preserved : goal.loop-x_front-preserved
loop-x_front-preserved c =
    let x = c.in-Some.ensures.cases in
    let y = c.in-Some-split_last_chunk.ensures.cases in
    ends_same c.loop-x_front.invariant (record { front_is = x.0; end_is = x.1; size = x.2 }) (record { front_is = y.0; end_is = y.1; size = y.2 })
    (sym c.if-not-same_eight.false ∙ c.same_eight.ensures)

pub returns : goal.returns
returns c = c.eq.ensures ∙ alike_is _ _ ∙ c.loop-x_front.invariant.same

use borrow.Author.Rules.{rules}
use mathlib.Core.Path.{refl, sym, ◌∙◌}
use native.Mathlib.Omega.{arith}
use Rattle.layout.specs.Text.{ascii}
use Rattle.xml_layout.specs.Xml.{document_start, document_end, item_start}
use Rattle.xml_import.proofs.Whole.{start, no_start, left_over, done, larger_inside, no_item_at, item-inside, place_inside, text-wrong, turn, stops}
use Rattle.xml_import.proofs.Words.{start-no_end}
use Rattle.xml_import.proofs.measure.Goals as goal

pub returns-then-n-ne73 : goal.returns-then-n-ne73
unfolding document_start document_end item_start ascii
returns-then-n-ne73 c = no_start _ c.matched_at-n.ensures c.if-n-ne73.true

pub loop-i-init : goal.loop-i-init
unfolding document_start document_end item_start ascii
loop-i-init c = start _ c.matched_at-n.ensures c.if-n-ne73.false

pub returns-then-end-xml : goal.returns-then-end-xml
unfolding document_start document_end item_start ascii
returns-then-end-xml c = left_over c.loop-i.invariant c.matched_at-e.ensures c.if-e-eq21.true refl c.if-end-xml.true

pub returns-then-e-eq21 : goal.returns-then-e-eq21
unfolding document_start document_end item_start ascii
returns-then-e-eq21 c = done c.loop-i.invariant c.matched_at-e.ensures c.if-e-eq21.true c.if-end-xml.false

pub overflow_add-result : goal.overflow_add-result
unfolding document_start document_end item_start ascii
overflow_add-result c = omega (arith, larger_inside c.loop-i.invariant c.matched_at-e.ensures c.if-e-eq21.false c.max.result c.start_at-s.ensures (search rules))

pub returns-then-s-ne6 : goal.returns-then-s-ne6
unfolding document_start document_end item_start ascii
returns-then-s-ne6 c = no_item_at c.loop-i.invariant c.matched_at-e.ensures c.if-e-eq21.false c.start_at-s.ensures c.if-s-ne6.true (search rules)

pub text_at-requires : goal.text_at-requires
unfolding document_start document_end item_start ascii
text_at-requires c =
    let a' = c.args in
    item-inside c.loop-i.invariant refl (λ q. start-no_end a'.xml.now c.loop-i.i (sym c.if-s-ne6.false ∙ c.start_at-s.ensures) q) c.start_at-s.ensures c.if-s-ne6.false

pub overflow_add-i-in-Err : goal.overflow_add-i-in-Err
unfolding document_start document_end item_start ascii
overflow_add-i-in-Err c =
    let a' = c.args in
    omega (arith, place_inside c.loop-i.invariant c.matched_at-e-in-Err.ensures (λ q. start-no_end a'.xml.now c.loop-i.i (sym c.if-s-ne6.false ∙ c.start_at-s.ensures) (sym c.matched_at-e-in-Err.ensures ∙ q)))

pub returns-in-Err : goal.returns-in-Err
unfolding document_start document_end item_start ascii
returns-in-Err c =
    let a' = c.args in
    text-wrong c.loop-i.invariant c.matched_at-e-in-Err.ensures (λ q. start-no_end a'.xml.now c.loop-i.i (sym c.if-s-ne6.false ∙ c.start_at-s.ensures) (sym c.matched_at-e-in-Err.ensures ∙ q)) c.start_at-s.ensures c.if-s-ne6.false _ c.in-Err.ensures (search rules)

pub overflow_add-size : goal.overflow_add-size
unfolding document_start document_end item_start ascii
overflow_add-size c =
    let a' = c.args in
    let v = turn c.loop-i.invariant refl (λ q. start-no_end a'.xml.now c.loop-i.i (sym c.if-s-ne6.false ∙ c.start_at-s.ensures) q) c.start_at-s.ensures c.if-s-ne6.false _ c.in-Ok.ensures in omega (arith, v.small c.length_size.ensures)

pub overflow_add-size-in-Ok : goal.overflow_add-size-in-Ok
unfolding document_start document_end item_start ascii
overflow_add-size-in-Ok c =
    let a' = c.args in
    let v = turn c.loop-i.invariant refl (λ q. start-no_end a'.xml.now c.loop-i.i (sym c.if-s-ne6.false ∙ c.start_at-s.ensures) q) c.start_at-s.ensures c.if-s-ne6.false _ c.in-Ok.ensures in omega (arith, v.small c.length_size.ensures, v.longer, v.inside)

pub overflow_add-size-in-Ok-2 : goal.overflow_add-size-in-Ok-2
unfolding document_start document_end item_start ascii
overflow_add-size-in-Ok-2 c =
    let a' = c.args in
    let v = turn c.loop-i.invariant refl (λ q. start-no_end a'.xml.now c.loop-i.i (sym c.if-s-ne6.false ∙ c.start_at-s.ensures) q) c.start_at-s.ensures c.if-s-ne6.false _ c.in-Ok.ensures in omega (arith, v.small c.length_size.ensures, v.longer, v.inside, c.loop-i.invariant.bound)

pub loop-i-smaller : goal.loop-i-smaller
unfolding document_start document_end item_start ascii
loop-i-smaller c =
    let a' = c.args in
    let v = turn c.loop-i.invariant refl (λ q. start-no_end a'.xml.now c.loop-i.i (sym c.if-s-ne6.false ∙ c.start_at-s.ensures) q) c.start_at-s.ensures c.if-s-ne6.false _ c.in-Ok.ensures in omega (arith, v.longer, v.inside)

pub loop-i-preserved : goal.loop-i-preserved
unfolding document_start document_end item_start ascii
loop-i-preserved c =
    let a' = c.args in
    (turn c.loop-i.invariant refl (λ q. start-no_end a'.xml.now c.loop-i.i (sym c.if-s-ne6.false ∙ c.start_at-s.ensures) q) c.start_at-s.ensures c.if-s-ne6.false _ c.in-Ok.ensures).walking c.length_size.ensures

pub returns : goal.returns
returns c = stops c.loop-i.invariant c.loop-i-test.false

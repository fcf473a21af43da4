use mathlib.Core.Path.{sym, ap, ◌∙◌}
use native.Mathlib.Omega.{arith}
use Rattle.answers.specs.Told.{told}
use Rattle.reading.specs.Reads.{small_by_index}
use Rattle.lookups.specs.Spans.{count_next}
use Rattle.lookups.proofs.Laws.{other_kind, no_count, other_count, whole-text}
use Rattle.lookups.proofs.text_in.Goals as goal

pub returns-then-kind-ne-STRING : goal.returns-then-kind-ne-STRING
returns-then-kind-ne-STRING c = rw c.at.ensures (other_kind c.args.bytes.now c.args.first c.args.kind c.args.row c.if-kind-ne-STRING.true)

pub overflow_sub-left : goal.overflow_sub-left
overflow_sub-left c =
    let s = c.args.bytes.now in
    (count_next s (small_by_index s (λ i h. omega (arith, c.type_inv.bytes i))) (sym c.count_at.ensures ∙ ap told c.in-Ok.is)).0

pub returns-then-n-left : goal.returns-then-n-left
returns-then-n-left c =
    let args = c.args in
    rw c.at-then-n-left.ensures
    (other_count args.bytes.now args.first args.kind args.row c.if-kind-ne-STRING.false (sym c.count_at.ensures ∙ ap told c.in-Ok.is) c.if-n-left.true)

pub overflow_add-result : goal.overflow_add-result
overflow_add-result c =
    let s = c.args.bytes.now in
    let n = count_next s (small_by_index s (λ i h. omega (arith, c.type_inv.bytes i))) (sym c.count_at.ensures ∙ ap told c.in-Ok.is) in
    omega (arith, n.0, c.requires)

pub returns-in_default : goal.returns-in_default
returns-in_default c =
    let args = c.args in
    rw c.at-in_default.ensures
    (no_count args.bytes.now args.first args.kind args.row c.if-kind-ne-STRING.false (sym c.count_at.ensures ∙ ap told c.in_default.is))

pub returns : goal.returns
returns c =
    let args = c.args in
    whole-text args.bytes.now args.first args.kind args.row c.if-kind-ne-STRING.false (sym c.count_at.ensures ∙ ap told c.in-Ok.is) c.if-n-left.false

use mathlib.Core.Path.{refl, sym, ap, ◌∙◌}
use native.Mathlib.Omega.{arith}
use Prim.Native.Nat.{◌+◌}
use lib.ListN.{set}
use lib.ListN.{length-drop}
use lib.Seq.{length-take-le}
use Rattle.std.proofs.lemmas.Result.{err_from_is_err_and}
use Rattle.layout.specs.Text.{ascii}
use Rattle.layout.specs.Name.{head_byte}
use Rattle.names.specs.Sound.{span_le}
use Rattle.names.proofs.Steps.{opens_none, opening_is, opening-small, opening-fits, too_deep, headless, opened, part_took, second_fits, give_up, odd_done, simple_done, argument-lost, only_done, comma-lost, second-lost, both_done}
use Rattle.names.proofs.parse.+parse.Goals as goal

pub returns-then-level-eq0 : goal.returns-then-level-eq0
returns-then-level-eq0 t c = rw c.at.ensures (give_up (too_deep _ _ _ c.if-level-eq0.true))

pub returns-then-h-eq0 : goal.returns-then-h-eq0
returns-then-h-eq0 t c = rw c.at-then-h-eq0.ensures (give_up (headless _ _ _ _ c.if-level-eq0.false c.long_run-h.ensures c.if-h-eq0.true))

pub arguments_at-requires : goal.arguments_at-requires
arguments_at-requires t c = (omega (arith, span_le head_byte c.args.part.bytes.now, c.long_run-h.ensures))

pub returns-in_err-n : goal.returns-in_err-n
returns-in_err-n t c =
    let p = err_from_is_err_and c.from_residual.result c.from_residual.ensures.1 in
    let o = opens_none c.args.part.at c.args.part.bytes.now c.long_run-h.result (sym c.in_err-n.ensures) in
    rw (p.1, p.2) (odd_done _ _ (opened _ _ _ _ c.if-level-eq0.false c.long_run-h.ensures c.if-h-eq0.false _ (sym o.1)) refl o.0)

pub slice_bounds-word_of-end : goal.slice_bounds-word_of-end
slice_bounds-word_of-end t c = sym (length-take-le _ c.args.part.bytes.now (omega (arith, span_le head_byte c.args.part.bytes.now, c.long_run-h.ensures)))

pub word_of-requires : goal.word_of-requires
word_of-requires t c = (
  opening-small c.args.part.at c.args.part.bytes.now _ (sym c.in_ok-n.ensures) c.long_run-h.ensures,
  omega (arith, span_le head_byte c.args.part.bytes.now, c.long_run-h.ensures, c.if-h-eq0.false),
)

pub tailed_at-requires : goal.tailed_at-requires
tailed_at-requires t c = omega (arith, span_le head_byte c.args.part.bytes.now, c.long_run-h.ensures)

pub returns-then-n-eq0 : goal.returns-then-n-eq0
returns-then-n-eq0 t c =
    let is-opened = opened _ _ _ _ c.if-level-eq0.false c.long_run-h.ensures c.if-h-eq0.false _ (opening_is c.args.part.at c.args.part.bytes.now c.long_run-h.result (sym c.in_ok-n.ensures)) in
    let coded = c.put.ensures ∙ ap (set c.args.codes.now c.args.used) c.word_of.ensures in
    simple_done _ _ is-opened
    (omega (arith, span_le head_byte c.args.part.bytes.now, c.long_run-h.ensures))
    coded c.if-n-eq0.true c.tailed_at.ensures

-- behind what opens arguments the first one starts within the name

pub overflow_add-a : goal.overflow_add-a
overflow_add-a t c = omega (arith, opening-fits c.args.part.at c.args.part.bytes.now _ (sym c.in_ok-n.ensures) c.long_run-h.ensures c.if-n-eq0.false)

pub behind-requires : goal.behind-requires
behind-requires t c = opening-fits c.args.part.at c.args.part.bytes.now _ (sym c.in_ok-n.ensures) c.long_run-h.ensures c.if-n-eq0.false

pub parse-requires : goal.parse-requires
parse-requires t c =
    let g = opening-fits c.args.part.at c.args.part.bytes.now _ (sym c.in_ok-n.ensures) c.long_run-h.ensures c.if-n-eq0.false in
    (omega (arith, c.if-level-eq0.false), rw c.behind.ensures.bytes (omega (arith, length-drop (c.long_run-h.result + 4) c.args.part.bytes.now, c.requires)))

pub returns-in_err-first : goal.returns-in_err-first
returns-in_err-first t c =
    let p = err_from_is_err_and c.from_residual-in_err-first.result c.from_residual-in_err-first.ensures.1 in
    let o = sym c.in_ok-n.ensures in
    let is-opened = opened _ _ _ _ c.if-level-eq0.false c.long_run-h.ensures c.if-h-eq0.false _ (opening_is c.args.part.at c.args.part.bytes.now c.long_run-h.result o) in
    let coded = c.put.ensures ∙ ap (set c.args.codes.now c.args.used) c.word_of.ensures in
    rw (p.1, p.2) (argument-lost _ _ _ _ _ _ _ _ _ is-opened (omega (arith, span_le head_byte c.args.part.bytes.now, c.long_run-h.ensures))
    coded (rw (c.behind.ensures.bytes, c.behind.ensures.at) at c.in_err-first.ensures) c.if-n-eq0.false (opening-small c.args.part.at c.args.part.bytes.now _ o c.long_run-h.ensures))

pub close-requires : goal.close-requires
close-requires t c =
    let fits = opening-fits c.args.part.at c.args.part.bytes.now _ (sym c.in_ok-n.ensures) c.long_run-h.ensures c.if-n-eq0.false in
    (part_took c.args.part.bytes.now _ fits (rw (c.behind.ensures.bytes, c.behind.ensures.at) at c.in_ok-first.ensures)).within

pub returns-then-n-eq1 : goal.returns-then-n-eq1
returns-then-n-eq1 t c =
    let o = sym c.in_ok-n.ensures in
    let is-opened = opened _ _ _ _ c.if-level-eq0.false c.long_run-h.ensures c.if-h-eq0.false _ (opening_is c.args.part.at c.args.part.bytes.now c.long_run-h.result o) in
    let coded = c.put.ensures ∙ ap (set c.args.codes.now c.args.used) c.word_of.ensures in
    let fits = opening-fits c.args.part.at c.args.part.bytes.now _ (sym c.in_ok-n.ensures) c.long_run-h.ensures c.if-n-eq0.false in
    only_done _ _ _ _ _ _ _ _ _ is-opened (omega (arith, span_le head_byte c.args.part.bytes.now, c.long_run-h.ensures)) coded (rw (c.behind.ensures.bytes, c.behind.ensures.at) at c.in_ok-first.ensures) fits c.if-n-eq1.true c.close.ensures

pub past-requires : goal.past-requires
past-requires t c =
    let fits = opening-fits c.args.part.at c.args.part.bytes.now _ (sym c.in_ok-n.ensures) c.long_run-h.ensures c.if-n-eq0.false in
    (part_took c.args.part.bytes.now _ fits (rw (c.behind.ensures.bytes, c.behind.ensures.at) at c.in_ok-first.ensures)).within

pub returns-in_err-b : goal.returns-in_err-b
unfolding ascii
returns-in_err-b t c =
    let p = err_from_is_err_and c.from_residual-in_err-b.result c.from_residual-in_err-b.ensures.1 in
    let o = sym c.in_ok-n.ensures in
    let is-opened = opened _ _ _ _ c.if-level-eq0.false c.long_run-h.ensures c.if-h-eq0.false _ (opening_is c.args.part.at c.args.part.bytes.now c.long_run-h.result o) in
    let coded = c.put.ensures ∙ ap (set c.args.codes.now c.args.used) c.word_of.ensures in
    let fits = opening-fits c.args.part.at c.args.part.bytes.now _ (sym c.in_ok-n.ensures) c.long_run-h.ensures c.if-n-eq0.false in
    rw (p.1, p.2) (comma-lost _ _ _ _ _ _ _ _ _ is-opened (omega (arith, span_le head_byte c.args.part.bytes.now, c.long_run-h.ensures)) coded (rw (c.behind.ensures.bytes, c.behind.ensures.at) at c.in_ok-first.ensures) fits
    (omega (arith, c.if-n-eq0.false, c.if-n-eq1.false, opening-small c.args.part.at c.args.part.bytes.now _ o c.long_run-h.ensures))
    (sym c.in_err-b.ensures))

-- behind the comma the second one does

pub behind-requires-2 : goal.behind-requires-2
unfolding ascii
behind-requires-2 t c =
    let g = opening-fits c.args.part.at c.args.part.bytes.now _ (sym c.in_ok-n.ensures) c.long_run-h.ensures c.if-n-eq0.false in
    (second_fits c.args.part.at c.args.part.bytes.now _ g (rw (c.behind.ensures.bytes, c.behind.ensures.at) at c.in_ok-first.ensures) (sym c.in_ok-b.ensures)).0

pub parse-requires-2 : goal.parse-requires-2
unfolding ascii
parse-requires-2 t c =
    let s = c.args.part.bytes.now in
    let g = opening-fits c.args.part.at s _ (sym c.in_ok-n.ensures) c.long_run-h.ensures c.if-n-eq0.false in
    let b = second_fits c.args.part.at s _ g (rw (c.behind.ensures.bytes, c.behind.ensures.at) at c.in_ok-first.ensures) (sym c.in_ok-b.ensures) in
    (omega (arith, c.if-level-eq0.false), rw c.behind-2.ensures.bytes (omega (arith, b.0, b.1, length-drop c.in_ok-b.b s, c.requires)))

pub returns-in_err-second : goal.returns-in_err-second
unfolding ascii
returns-in_err-second t c =
    let p = err_from_is_err_and c.from_residual-in_err-second.result c.from_residual-in_err-second.ensures.1 in
    let o = sym c.in_ok-n.ensures in
    let is-opened = opened _ _ _ _ c.if-level-eq0.false c.long_run-h.ensures c.if-h-eq0.false _ (opening_is c.args.part.at c.args.part.bytes.now c.long_run-h.result o) in
    let coded = c.put.ensures ∙ ap (set c.args.codes.now c.args.used) c.word_of.ensures in
    let fits = opening-fits c.args.part.at c.args.part.bytes.now _ (sym c.in_ok-n.ensures) c.long_run-h.ensures c.if-n-eq0.false in
    rw (p.1, p.2) (second-lost _ _ _ _ _ _ _ _ _ is-opened (omega (arith, span_le head_byte c.args.part.bytes.now, c.long_run-h.ensures)) coded (rw (c.behind.ensures.bytes, c.behind.ensures.at) at c.in_ok-first.ensures) fits
    (omega (arith, c.if-n-eq0.false, c.if-n-eq1.false, opening-small c.args.part.at c.args.part.bytes.now _ o c.long_run-h.ensures))
    (part_took c.args.part.bytes.now _ fits (rw (c.behind.ensures.bytes, c.behind.ensures.at) at c.in_ok-first.ensures)) (sym c.in_ok-b.ensures) (rw (c.behind-2.ensures.bytes, c.behind-2.ensures.at) at c.in_err-second.ensures) refl)

pub close-requires-2 : goal.close-requires-2
unfolding ascii
close-requires-2 t c =
    let fits = opening-fits c.args.part.at c.args.part.bytes.now _ (sym c.in_ok-n.ensures) c.long_run-h.ensures c.if-n-eq0.false in
    let b = second_fits c.args.part.at c.args.part.bytes.now _ fits (rw (c.behind.ensures.bytes, c.behind.ensures.at) at c.in_ok-first.ensures) (sym c.in_ok-b.ensures) in
    (part_took c.args.part.bytes.now _ b.0 (rw (c.behind-2.ensures.bytes, c.behind-2.ensures.at) at c.in_ok-second.ensures)).within

pub returns : goal.returns
unfolding ascii
returns t c =
    let o = sym c.in_ok-n.ensures in
    let is-opened = opened _ _ _ _ c.if-level-eq0.false c.long_run-h.ensures c.if-h-eq0.false _ (opening_is c.args.part.at c.args.part.bytes.now c.long_run-h.result o) in
    let coded = c.put.ensures ∙ ap (set c.args.codes.now c.args.used) c.word_of.ensures in
    let fits = opening-fits c.args.part.at c.args.part.bytes.now _ (sym c.in_ok-n.ensures) c.long_run-h.ensures c.if-n-eq0.false in
    let b = second_fits c.args.part.at c.args.part.bytes.now _ fits (rw (c.behind.ensures.bytes, c.behind.ensures.at) at c.in_ok-first.ensures) (sym c.in_ok-b.ensures) in
    both_done _ _ _ _ _ _ _ _ _ is-opened (omega (arith, span_le head_byte c.args.part.bytes.now, c.long_run-h.ensures)) coded (rw (c.behind.ensures.bytes, c.behind.ensures.at) at c.in_ok-first.ensures) fits
    (omega (arith, c.if-n-eq0.false, c.if-n-eq1.false, opening-small c.args.part.at c.args.part.bytes.now _ o c.long_run-h.ensures))
    (part_took c.args.part.bytes.now _ fits (rw (c.behind.ensures.bytes, c.behind.ensures.at) at c.in_ok-first.ensures)) (sym c.in_ok-b.ensures) (rw (c.behind-2.ensures.bytes, c.behind-2.ensures.at) at c.in_ok-second.ensures) b.0 refl c.close-2.ensures

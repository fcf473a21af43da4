use mathlib.Core.Path.{sym, ap, ◌∙◌}
use Prim.Native.Nat.{ℕ, ◌+◌}
use native.Mathlib.Omega.{arith}
use lib.ListN.{drop, length-drop}
use Rattle.layout.specs.Text.{ascii}
use Rattle.layout.specs.Name.{tail_byte}
use Rattle.names.specs.Parse.{span}
use Rattle.names.specs.Sound.{span_le}
use Rattle.names.proofs.Laws.{rest, starts-fits, tail_none, tail-some}
use Rattle.names.proofs.parse.tail_size.Goals as goal

pub returns-then-not-stands : goal.returns-then-not-stands
unfolding ascii
returns-then-not-stands c = tail_none _ (sym c.stands.ensures ∙ c.if-not-stands.true)

pub slice_bounds-long_run-count : goal.slice_bounds-long_run-count
slice_bounds-long_run-count c =
    let h = starts-fits _ c.args.s.now 0 (omega arith) (sym c.stands.ensures ∙ c.if-not-stands.false) in
    omega arith

pub slice_bounds-long_run-start : goal.slice_bounds-long_run-start
slice_bounds-long_run-start c =
    let h = starts-fits _ c.args.s.now 0 (omega arith) (sym c.stands.ensures ∙ c.if-not-stands.false) in
    omega arith

pub overflow_add-result : goal.overflow_add-result
overflow_add-result c =
    let s = c.args.s.now in
    let e = c.long_run.ensures ∙ ap (span tail_byte) (rest s 1) in
    let h = starts-fits _ s 0 (omega arith) (sym c.stands.ensures ∙ c.if-not-stands.false) in
    omega (arith, span_le tail_byte (drop 1 s), length-drop 1 s)

pub returns : goal.returns
unfolding ascii
returns c =
    ap (λ (k : ℕ). k + 1) (c.long_run.ensures ∙ ap (span tail_byte) (rest c.args.s.now 1)) ∙ tail-some _ (sym c.stands.ensures ∙ c.if-not-stands.false)

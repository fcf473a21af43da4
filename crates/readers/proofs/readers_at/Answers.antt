-- `readers::readers_at` meets its contract: before each turn the first `i` readers are in the arrays. Assumes nothing.
use mathlib.Core.Path.{◌≡◌, sym, ap, ◌∙◌}
use Prim.Native.Nat.{◌-◌}
use native.Mathlib.Omega.{arith}
use Rattle.std.proofs.lemmas.Result.{err_from_is_err_and}
use Rattle.names.specs.Entries.{enums_of}
use Rattle.names.specs.EntryLaws.{enums-sized}
use Rattle.reading.specs.Reads.{small_by_index}
use Rattle.places.specs.Padding.{pad_few}
use Rattle.readers.specs.Left.{readers_from, readers_left}
use Rattle.readers.specs.Turns.{Underway}
use Rattle.readers.specs.Steps.{readers-start, reader-turn, readers-end}
use Rattle.readers.specs.Turning.{none_read, ready, one_read}
use Rattle.readers.specs.Meaning.{reader-takes}
use borrow.Author.Rules.{rules}
use Rattle.readers.proofs.readers_at.Goals as goal

pub loop-i-init : goal.loop-i-init
loop-i-init c = (none_read _ _ _ _ _ _ _ c.requires.0.3 c.requires.0.4, readers-start _ _ _ _ _ _ _)

pub returns-in_err-reader : goal.returns-in_err-reader
returns-in_err-reader c =
    let v = c.loop-i.invariant in
    let p = err_from_is_err_and c.from_residual.result c.from_residual.ensures.1 in
    rw (p.1, p.2) (sym v.1 ∙ reader-turn _ _ _ _ _ _ _ _ _ _ _ _ c.loop-i-test.true (ap (λ o. o.0) (sym c.in_err-reader.ensures)) (ap (λ o. o.1) (sym c.in_err-reader.ensures)))

pub overflow_cast-targets : goal.overflow_cast-targets
overflow_cast-targets c = omega (arith, c.loop-i.invariant.0.reached.room, c.loop-i.invariant.0.reached.few, c.requires.0.1)

pub overflow_cast-starts : goal.overflow_cast-starts
overflow_cast-starts c =
    let v = c.loop-i.invariant in
    let h = c.loop-i-test.true in
    let file = c.args.file.now in
    let small = small_by_index file (λ i h. omega (arith, c.type_inv.file i)) in
    let takes = (reader-takes _ (enums-sized _) file _ _ _ (ready v.0 h c.requires.0.0 c.requires.0.1 c.requires.0.2) small c.in_ok-reader.ensures) in
    omega (arith, takes.near, v.0.passed.near, c.requires.0.1, c.requires.1)

pub overflow_add-padding : goal.overflow_add-padding
overflow_add-padding c =
    let args = c.args in
    let file = args.file.now in
    let small = small_by_index file (λ i h. omega (arith, c.type_inv.file i)) in
    omega (arith, c.padding_at-padding.ensures, pad_few file small c.loop-i.next, c.loop-i.invariant.0.passed.few, c.loop-i-test.true, c.requires.0.1)

pub loop-i-preserved : goal.loop-i-preserved
loop-i-preserved c =
    let file = c.args.file.now in
    let small = small_by_index file (λ i h. omega (arith, c.type_inv.file i)) in
    let h = c.loop-i-test.true in
    let v = c.loop-i.invariant in
    let t = (reader-takes _ (enums-sized _) file _ _ _ (ready v.0 h c.requires.0.0 c.requires.0.1 c.requires.0.2) small c.in_ok-reader.ensures) in
    let one = ap (λ o. o.0) (sym c.in_ok-reader.ensures) in
    rw c.padding_at-padding.ensures (one_read v.0 h small c.requires.0.1 t, sym (reader-turn _ _ _ _ _ _ _ _ _ _ _ _ h one (ap (λ o. o.1) (sym c.in_ok-reader.ensures))) ∙ v.1)

pub returns : goal.returns
returns c = sym c.loop-i.invariant.1 ∙ readers-end _ _ _ _ _ _ _ _ _ _ c.loop-i-test.false

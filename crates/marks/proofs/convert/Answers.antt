use Rattle.std.specs.Prelude.{length}
use Rattle.std.proofs.Common.{rules, arith}
use Rattle.std.proofs.lemmas.Result.{err_from_is_err_and}
use Rattle.reading.specs.Reads.{small_by_index}
use Rattle.marks.proofs.Answers.{not_converted, counted, measured, fits, no_room, has_room, refused-answer}
use Rattle.marks.proofs.convert.Goals as goal

named : {A B : Type 0} → A × B → record { value : A; out_after : B }
named p = record { value = p.0; out_after = p.1 }

pub returns-in_err-files : goal.returns-in_err-files
returns-in_err-files c =
    let a = c.args in
    let p = err_from_is_err_and c.from_residual.result c.from_residual.ensures.1 in
    named (rw (p.1, p.2) (refused-answer a.out.now (not_converted a.marked a.pack.now (length a.out.now) c.in_err-files.ensures)))

pub measure-size-requires : goal.measure-size-requires
measure-size-requires c =
    let a = c.args in
    let small = small_by_index a.pack.now (λ i h. omega (arith, c.type_inv.pack i)) in
    measured (counted a.marked a.pack.now small c.in_ok-files.ensures) (search rules)

pub returns-then-out-size : goal.returns-then-out-size
returns-then-out-size c =
    let a = c.args in
    let small = small_by_index a.pack.now (λ i h. omega (arith, c.type_inv.pack i)) in
    let w = counted a.marked a.pack.now small c.in_ok-files.ensures in
    named (rw (c.at.ensures, c.measure-size.ensures) (refused-answer a.out.now (no_room w (rw c.measure-size.ensures at c.if-out-size.true))))

pub put_files-requires : goal.put_files-requires
put_files-requires c =
    let a = c.args in
    let small = small_by_index a.pack.now (λ i h. omega (arith, c.type_inv.pack i)) in
    fits (counted a.marked a.pack.now small c.in_ok-files.ensures) (rw c.measure-size.ensures at c.if-out-size.false)

pub returns : goal.returns
returns c =
    let a = c.args in
    let small = small_by_index a.pack.now (λ i h. omega (arith, c.type_inv.pack i)) in
    let w = counted a.marked a.pack.now small c.in_ok-files.ensures in
    record { value = rw c.measure-size.ensures (has_room w (rw c.measure-size.ensures at c.if-out-size.false)); out_after = c.put_files.ensures }

use Rattle.std.proofs.Common.{arith}
use Rattle.reading.specs.Reads.{small_by_index}
use Rattle.number_rules.specs.Entries.{past-small}
use Rattle.number_rules.specs.Numbers.{count-wrong, length-wrong, shared_found, passed-wrong, passed-end}
use Rattle.number_rules.proofs.lists_numbers.Goals as goal

pub returns-in-Some : goal.returns-in-Some
returns-in-Some c = let a = c.args in λ h. count-wrong a.file.now a.readers (rw c.in-Some.is at c.number_at.ensures)

pub returns-in-Err : goal.returns-in-Err
returns-in-Err c =
    let a = c.args in
    let small = small_by_index a.file.now (λ i h. omega (arith, c.type_inv.file i)) in
    let b = past-small a.file.now 10 small in
    λ h.
    let w = c.entries_numbers.ensures h (omega (arith, c.behind.ensures)) in
    length-wrong a.file.now a.readers (rw c.in-None.is at c.number_at.ensures) (passed-wrong a.file.now a.readers c.behind.result c.behind.ensures c.entries_numbers.result c.in-Err.is w)

pub returns-in-Ok : goal.returns-in-Ok
returns-in-Ok c =
    let a = c.args in
    let small = small_by_index a.file.now (λ i h. omega (arith, c.type_inv.file i)) in
    let b = past-small a.file.now 10 small in
    λ h.
    let w = c.entries_numbers.ensures h (omega (arith, c.behind.ensures)) in
    let x = passed-end a.file.now a.readers c.behind.result c.behind.ensures c.entries_numbers.result c.in-Ok.is w in
    shared_found a.file.now a.readers (rw c.in-None.is at c.number_at.ensures) c.number_at-in-Ok.result x.0 x.1 c.number_at-in-Ok.ensures

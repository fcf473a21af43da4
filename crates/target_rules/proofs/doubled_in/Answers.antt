use Rattle.std.proofs.Common.{sym, refl, arith}
use Rattle.reading.specs.Reads.{small_by_index}
use Rattle.names.specs.Entries.{enums_of}
use Rattle.readers.specs.Contract.{lists_total}
use Rattle.readers.specs.Meaning.{lists_take}
use Rattle.target_rules.specs.Doubled.{no_lists, lists_double}
use Rattle.target_rules.proofs.doubled_in.Goals as goal

pub slice_bounds-first_double-end : goal.slice_bounds-first_double-end
slice_bounds-first_double-end c =
    let a = c.args in
    let small = small_by_index a.file.now (λ i h. omega (arith, c.type_inv.file i)) in
    let w = rw c.in-Ok.is at (lists_take a.enums.now a.file.now small 10 _ _ _ refl refl c.read_lists.ensures) in
    sym w.1.targets_size

pub returns-in-Err : goal.returns-in-Err
returns-in-Err c =
    let a = c.args in
    let small = small_by_index a.file.now (λ i h. omega (arith, c.type_inv.file i)) in
    no_lists (enums_of a.enums.now) a.file.now a.codes.now c.read_lists.new.codes c.read_lists.new.targets c.read_lists.new.starts (lists_total a.file.now 10) _ _
    (rw c.in-Err.is at (lists_take a.enums.now a.file.now small 10 _ _ _ refl refl c.read_lists.ensures))

pub returns-in-Ok : goal.returns-in-Ok
returns-in-Ok c =
    let a = c.args in
    let small = small_by_index a.file.now (λ i h. omega (arith, c.type_inv.file i)) in
    let w = rw c.in-Ok.is at (lists_take a.enums.now a.file.now small 10 _ _ _ refl refl c.read_lists.ensures) in
    λ t. lists_double (enums_of a.enums.now) a.file.now c.first_double.result w.1 c.first_double.ensures

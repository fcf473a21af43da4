-- `values::part` meets its contract. Assumes nothing.
use mathlib.Core.Path.{◌≡◌, sym}
use Prim.Native.Nat.{◌+◌, ◌-◌}
use native.Mathlib.Omega.{arith}
use lib.ListN.{length-drop, drop_of_length-le}
use lib.Seq.{take-nil}
use Rattle.values.proofs.part.Goals as goal

pub returns-then-file-at : goal.returns-then-file-at
returns-then-file-at c =
    let a = c.args in
    rw (drop_of_length-le a.file.now {i = a.at} (omega arith)) (sym (take-nil a.size))

pub overflow_add-next : goal.overflow_add-next
overflow_add-next c = omega (arith, length-drop c.args.at c.args.file.now)

pub slice_bounds-result-end-2 : goal.slice_bounds-result-end-2
slice_bounds-result-end-2 c = omega (arith, length-drop c.args.at c.args.file.now)

pub returns : goal.returns
returns c =
    let a = c.args in
    let e : a.at + a.size - a.at ≡ a.size = omega arith in
    rw e

use native.Mathlib.Omega.{arith}
use Rattle.names.specs.Entries.{enums_of}
use Rattle.names.specs.Codes.{kind_is_small}
use Rattle.names.proofs.parse.word_of.Goals as goal

pub overflow_add-result : goal.overflow_add-result
overflow_add-result c =
    let a = c.args in
    omega (arith, c.kind_in.ensures, kind_is_small (enums_of a.enums.now) a.own a.head.now a.n)

pub overflow_add-result-2 : goal.overflow_add-result-2
overflow_add-result-2 c =
    let a = c.args in
    omega (arith, c.kind_in.ensures, kind_is_small (enums_of a.enums.now) a.own a.head.now a.n)

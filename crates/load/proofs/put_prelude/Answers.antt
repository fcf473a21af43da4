use native.Mathlib.Omega.{arith}
use lib.ListN.{length-set}
use Rattle.load.specs.Laws.{prelude-stored}
use Rattle.load.proofs.put_prelude.Goals as goal

pub bounds-codes-1 : goal.bounds-codes-1
bounds-codes-1 c = simp length-set (omega (arith, c.requires))

pub bounds-codes-2 : goal.bounds-codes-2
bounds-codes-2 c = simp length-set (omega (arith, c.requires))

pub bounds-codes-3 : goal.bounds-codes-3
bounds-codes-3 c = simp length-set (omega (arith, c.requires))

pub bounds-codes-4 : goal.bounds-codes-4
bounds-codes-4 c = simp length-set (omega (arith, c.requires))

pub bounds-codes-5 : goal.bounds-codes-5
bounds-codes-5 c = simp length-set (omega (arith, c.requires))

pub bounds-codes-6 : goal.bounds-codes-6
bounds-codes-6 c = simp length-set (omega (arith, c.requires))

pub bounds-codes-7 : goal.bounds-codes-7
bounds-codes-7 c = simp length-set (omega (arith, c.requires))

pub bounds-codes-8 : goal.bounds-codes-8
bounds-codes-8 c = simp length-set (omega (arith, c.requires))

pub bounds-codes-9 : goal.bounds-codes-9
bounds-codes-9 c = simp length-set (omega (arith, c.requires))

pub bounds-codes-10 : goal.bounds-codes-10
bounds-codes-10 c = simp length-set (omega (arith, c.requires))

pub bounds-codes-11 : goal.bounds-codes-11
bounds-codes-11 c = simp length-set (omega (arith, c.requires))

pub returns : goal.returns
returns c = prelude-stored c.args.codes.now c.requires

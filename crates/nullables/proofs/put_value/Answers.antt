use Rattle.std.proofs.Common.{◌≡◌, sym, ◌∙◌, arith}
use Rattle.nullables.specs.Placed.{run_none, run_one}
use Rattle.nullables.proofs.put_value.Goals as goal

pub returns-then-flag-eq0 : goal.returns-then-flag-eq0
returns-then-flag-eq0 c = rw c.if-flag-eq0.true (sym (run_none _ _ _ _ _ _ _))

pub returns : goal.returns
returns c =
    let z : c.args.flag ≡ 1 = omega (arith, c.if-flag-eq0.false, c.requires) in
    rw z (c.put_row.ensures ∙ rw (c.word.ensures, c.word-2.ensures) (sym (run_one _ _ _ _ _ _ _)))

use Rattle.std.proofs.Common.{◌≡◌, ◌%◌, arith, get_or}
use Rattle.targets.specs.Place.{kind_at}
use Rattle.first_values.specs.Looks.{wants_all, wants_text}
use Rattle.first_values.proofs.wanted_code.Goals as goal

pub returns-then-code-eq-OBJECT : goal.returns-then-code-eq-OBJECT
unfolding kind_at
returns-then-code-eq-OBJECT c =
    λ file.
    let a = c.args in
    let k : get_or a.codes.now a.declared 0 % 64 ≡ 14 = omega (arith, c.if-code-eq-OBJECT.true) in
    wants_all file a.codes.now a.declared k

pub returns-then-code-eq-STRING : goal.returns-then-code-eq-STRING
returns-then-code-eq-STRING c = λ file. wants_text file _ _ c.if-code-eq-STRING.true

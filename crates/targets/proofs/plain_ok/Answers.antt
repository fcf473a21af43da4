use Rattle.std.proofs.Common.{◌≡◌, ◌∙◌, arith, true, false, ◌||◌}
use Rattle.std.proofs.lemmas.Bool.Decides.{nat_tests}
use Rattle.layout.specs.Number.{between}
use Rattle.targets.proofs.Judging.{plain_test}
use Rattle.targets.proofs.plain_ok.Goals as goal

pub returns-in-1-to-14 : goal.returns-in-1-to-14
returns-in-1-to-14 c =
    let b = c.args.b in
    let q : true ≡ (between 1 14 b || (between 20 34 b || between 37 40 b)) = grind (arith, nat_tests) in
    q ∙ plain_test b c.requires

pub returns-in-1-to-14-2 : goal.returns-in-1-to-14-2
returns-in-1-to-14-2 c =
    let b = c.args.b in
    let q : true ≡ (between 1 14 b || (between 20 34 b || between 37 40 b)) = grind (arith, nat_tests) in
    q ∙ plain_test b c.requires

pub returns-in-1-to-14-3 : goal.returns-in-1-to-14-3
returns-in-1-to-14-3 c =
    let b = c.args.b in
    let q : true ≡ (between 1 14 b || (between 20 34 b || between 37 40 b)) = grind (arith, nat_tests) in
    q ∙ plain_test b c.requires

pub returns-in_default : goal.returns-in_default
returns-in_default c =
    let b = c.args.b in
    let q : false ≡ (between 1 14 b || (between 20 34 b || between 37 40 b)) = grind (arith, nat_tests) in
    q ∙ plain_test b c.requires

pub returns-in_default-2 : goal.returns-in_default-2
returns-in_default-2 c =
    let b = c.args.b in
    let q : false ≡ (between 1 14 b || (between 20 34 b || between 37 40 b)) = grind (arith, nat_tests) in
    q ∙ plain_test b c.requires

pub returns-in_default-3 : goal.returns-in_default-3
returns-in_default-3 c =
    let b = c.args.b in
    let q : false ≡ (between 1 14 b || (between 20 34 b || between 37 40 b)) = grind (arith, nat_tests) in
    q ∙ plain_test b c.requires

pub returns-in_default-4 : goal.returns-in_default-4
returns-in_default-4 c =
    let b = c.args.b in
    let q : false ≡ (between 1 14 b || (between 20 34 b || between 37 40 b)) = grind (arith, nat_tests) in
    q ∙ plain_test b c.requires

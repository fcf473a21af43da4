use Rattle.std.proofs.Common.{◌≡◌, refl, ◌∙◌, Bool, true, false, ◌||◌, ℕ, arith, eqb}
use Rattle.std.proofs.lemmas.Bool.Decides.{nat_tests}
use Rattle.reading.specs.File.{is_platform}
use Rattle.header.proofs.is_platform.Goals as goal

turned : (a b : ℕ) → eqb a b ≡ eqb b a
turned a b = grind (arith, nat_tests)

or_none : (a : Bool) → (a || false) ≡ a
or_none true = refl
or_none false = refl

pub returns : goal.returns
unfolding is_platform
returns c =
    let b = c.args.b in
    c.contains.ensures.value ∙ rw (turned 119 b, turned 109 b, turned 120 b, or_none (eqb b 120))

use Rattle.first_values.proofs.look.Goals as goal

pub returns : goal.returns
returns c = λ declared d. c.named.ensures declared c.args.at d c.in_ok-it.ensures.0 c.in_ok-it.ensures.1

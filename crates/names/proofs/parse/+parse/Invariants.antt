use Rattle.names.proofs.parse.+parse.Given as goal

abbrev pub decreases-parse : goal.decreases-parse
decreases-parse l = l.level

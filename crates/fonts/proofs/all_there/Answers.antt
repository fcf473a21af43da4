use Rattle.fonts.specs.FontWords.{all_there}
use Rattle.fonts.proofs.Laws.{no, yes}
use Rattle.fonts.proofs.all_there.Goals as goal

pub returns-then-not-filled : goal.returns-then-not-filled
unfolding all_there
returns-then-not-filled c = no _ c.filled.ensures c.if-not-filled.true-raw

pub returns-then-not-filled-2 : goal.returns-then-not-filled-2
unfolding all_there
returns-then-not-filled-2 c = yes c.filled.ensures c.if-not-filled.false-raw (no _ c.filled-2.ensures c.if-not-filled-2.true-raw)

pub returns-then-not-filled-3 : goal.returns-then-not-filled-3
unfolding all_there
returns-then-not-filled-3 c =
    yes c.filled.ensures c.if-not-filled.false-raw (yes c.filled-2.ensures c.if-not-filled-2.false-raw (no _ c.filled-3.ensures c.if-not-filled-3.true-raw))

pub returns-then-not-filled-4 : goal.returns-then-not-filled-4
unfolding all_there
returns-then-not-filled-4 c =
    yes c.filled.ensures c.if-not-filled.false-raw (yes c.filled-2.ensures c.if-not-filled-2.false-raw (yes c.filled-3.ensures c.if-not-filled-3.false-raw (no _ c.filled-4.ensures c.if-not-filled-4.true-raw)))

pub returns : goal.returns
unfolding all_there
returns c =
    yes c.filled.ensures c.if-not-filled.false-raw (yes c.filled-2.ensures c.if-not-filled-2.false-raw (yes c.filled-3.ensures c.if-not-filled-3.false-raw (yes c.filled-4.ensures c.if-not-filled-4.false-raw c.filled-5.ensures)))

-- `resources::note` meets its contract. Assumes nothing.
use Rattle.std.proofs.Common.{sym, ◌∙◌, eqb-true, arith}
use Rattle.std.proofs.lemmas.Bool.{eqb-false}
use Rattle.resources.proofs.Noted.{no_room, no_root, one_root}
use Rattle.resources.proofs.note.Goals as goal

pub returns-then-is_full : goal.returns-then-is_full
returns-then-is_full c = no_room _ _ (eqb-true _ _ (sym c.is_full.ensures.value ∙ c.if-is_full.true))

pub returns-then-word-ne0 : goal.returns-then-word-ne0
returns-then-word-ne0 c = rw (← c.word.ensures) (no_root _ _ _ c.if-word-ne0.true c.is_full.ensures.fits)

pub returns : goal.returns
returns c =
    let free = eqb-false _ _ (sym c.is_full.ensures.value ∙ c.if-is_full.false) in
    rw (← c.word.ensures, ← c.word-2.ensures, c.push.ensures.items) (one_root _ _ _ c.if-word-ne0.false (omega (arith, free, c.is_full.ensures.fits)))

use mathlib.Core.Path.{sym, ◌∙◌}
use Rattle.builder.proofs.Laws.{load_refused, load_accepted}
use borrow.Author.Rules.{rules}
use Rattle.builder.proofs.tell_load.Goals as goal

pub returns-in-Err : goal.returns-in-Err
returns-in-Err c = λ file x e. load_refused file x (sym c.in-Err.is ∙ e) c.packed.ensures

pub returns-in-Ok : goal.returns-in-Ok
returns-in-Ok c = λ file x e. load_accepted file x (sym c.in-Ok.is ∙ e)

use borrow.Author.Rules.{rules}
use Rattle.builder.proofs.xnb_load_rows.Goals as goal

both : {A B : Type 0} → A → B → A × B
both a b = (a, b)

named : {A B : Type 0} → A × B → record { padding_after : A; words_after : B }
named p = record { padding_after = p.0; words_after = p.1 }

pub returns : goal.returns
returns c = named ((both c.load_told.ensures.padding_after c.load_told.ensures.words_after))

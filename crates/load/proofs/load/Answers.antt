use Rattle.load.proofs.load.Goals as goal

both : {A B : Type 0} → A → B → A × B
both a b = (a, b)

named : {A B : Type 0} → A × B → record { value : A; words_after : B }
named p = record { value = p.0; words_after = p.1 }

pub returns : goal.returns
returns c = named ((both c.load_in.ensures.value c.load_in.ensures.words_after))

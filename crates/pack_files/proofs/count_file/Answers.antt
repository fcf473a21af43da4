use mathlib.Core.Path.{refl, sym, ◌∙◌}
use Rattle.load_part.specs.Part.{opened}
use Rattle.pack_counts.specs.Raise.{counted-alike}
use Rattle.pack_files.specs.Xnb.{is_xnb, no_xnb}
use Rattle.pack_files.proofs.count_file.Goals as goal

pub returns-then-is_xnb : goal.returns-then-is_xnb
returns-then-is_xnb c =
    let a = c.args in
    record { figures_after = λ k. c.count_xnb.ensures.figures_after k ∙ counted-alike _ _ (is_xnb (opened a.enums.now) a.content.now (sym c.is_xnb.ensures ∙ c.if-is_xnb.true)) a.figures.now; words_unchanged = c.count_xnb.ensures.words_unchanged }

pub returns : goal.returns
returns c =
    let a = c.args in
    record { figures_after = λ k. c.count_other.ensures ∙ counted-alike _ _ (no_xnb (opened a.enums.now) a.content.now (sym c.is_xnb.ensures ∙ c.if-is_xnb.false)) a.figures.now; words_unchanged = λ k. refl }

use mathlib.Core.Path.{sym, ◌∙◌}
use Rattle.load.specs.Laws.{not_the_end, wrong-resource, all_well, loads-refused}
use Rattle.resources.specs.Meaning.{settles_drafts}
use Rattle.load.proofs.finish.Goals as goal

pub returns-then-next-file : goal.returns-then-next-file
returns-then-next-file c =
    λ total platform flags names a w d q. rw c.at.ensures (loads-refused _ total _ c.args.words.now _ (not_the_end _ platform flags names _ _ a _ c.if-next-file.true))

pub returns-in-Some : goal.returns-in-Some
returns-in-Some c =
    λ total platform flags names a w d q.
    let s = settles_drafts c.settle.ensures.value c.settle.ensures.words_after d in
    rw c.at-in-Some.ensures (loads-refused _ total _ c.args.words.now _ (wrong-resource _ platform flags names _ _ a _ c.if-next-file.false (sym s.answers ∙ c.in-Some.is)))

pub returns : goal.returns
returns c =
    λ total platform flags names a w d q.
    let s = rw c.in_default.is at (settles_drafts c.settle.ensures.value c.settle.ensures.words_after d) in
    all_well _ platform flags names _ _ a _ c.if-next-file.false total d q s.answers s.leaves c.clear_behind.ensures

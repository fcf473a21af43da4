use Rattle.std.proofs.Common.{refl, ap, ◌∙◌}
use Rattle.table.specs.Word.{in_word}
use Rattle.table.specs.Put.{put_row}
use Rattle.walked.proofs.leaf.Goals as goal

named : {A B : Type 0} → A × B → record { value : A; words_after : B }
named p = record { value = p.0; words_after = p.1 }

pub returns : goal.returns
unfolding in_word
returns c =
    let a = c.args in
    named (rw c.in_ok-next.was (
      refl,
      c.put_row.ensures ∙ ap (put_row a.grid a.words.now a.h.row.0) c.row_words-r.ensures,
    ))

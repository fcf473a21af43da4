use Rattle.two_runs.proofs.Laws.{same_answer, same_rows, same_words}
use Rattle.reading.specs.Reads.{small_by_index}
use Rattle.enums.specs.Lists.{Bytes}
use lib.ListN.{length}
use native.Mathlib.Omega.{arith}
use mathlib.Core.Path.{sym, ◌∙◌}
use borrow.Author.Rules.{rules}
use Rattle.two_runs.proofs.load_two.Goals as goal

both : {A B : Type 0} → A → B → A × B
both a b = (a, b)

pub returns : goal.returns
returns c =
    let a = c.args in
    let file = a.file.now in
    let other = a.other.now in
    let enums = a.enums.now in
    let n = length a.words.now in
    let m = length a.others.now in
    let small = small_by_index file (λ i h. omega (arith, c.type_inv.file i)) in
    let small' = small_by_index other (λ i h. omega (arith, c.type_inv.other i)) in
    let bytes : Bytes enums = λ i h. omega (arith, c.type_inv.enums i) in
    record {
      loads_alike = λ room r. (
        c.load_in-first.ensures.value ∙ same_answer enums file other n m bytes small small' r room ∙ sym c.load_in-second.ensures.value,
        same_rows a.columns enums file other n m bytes small small' r room c.load_in-first.ensures.words_after c.load_in-second.ensures.words_after,
        same_words a.columns enums file other n m bytes small r c.load_in-first.ensures.words_after c.load_in-second.ensures.words_after,
      );
      load_is = (both c.load_in-first.ensures.value c.load_in-first.ensures.words_after);
      load_is_2 = (both c.load_in-second.ensures.value c.load_in-second.ensures.words_after);
    }

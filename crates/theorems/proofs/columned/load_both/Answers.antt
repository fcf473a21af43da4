use mathlib.Core.Path.{sym, ap, ◌∙◌}
use mathlib.Core.Bool.{true, false}
use native.Mathlib.Omega.{arith}
use lib.ListN.{length}
use Rattle.reading.specs.Reads.{small_by_index}
use Rattle.load.specs.Loads.{answer_of}
use Rattle.enums.specs.Lists.{Bytes}
use Rattle.theorems.specs.Laws.{load_exact}
use Rattle.theorems.proofs.Both.{same_load, same_rows}
use Rattle.theorems.proofs.columned.load_both.Goals as goal

pub returns : goal.returns
returns c =
    let a = c.args in
    let file = a.file.now in
    let enums = a.enums.now in
    let bytes : Bytes enums = λ i h. omega (arith, c.type_inv.enums i) in
    let n = length a.words.now in
    let m = length a.columns.now in
    let small = small_by_index file (λ i h. omega (arith, c.type_inv.file i)) in
    record {
      loads_both = record {
        by_rows_lem = load_exact enums file n false bytes small c.load.ensures.value c.load.ensures.words_after;
        by_columns_lem = load_exact enums file m true bytes small c.load_columns.ensures.value c.load_columns.ensures.words_after;
        same = λ room.
            (c.load.ensures.value ∙ ap (answer_of file) (same_load enums file n m room) ∙ sym c.load_columns.ensures.value, same_rows enums file n m bytes small room c.load.ensures.words_after c.load_columns.ensures.words_after);
      };
      rows_value = c.load.ensures.value;
      columns_value = c.load_columns.ensures.value;
    }

use Rattle.std.proofs.Common.{sym, ◌∙◌, arith}
use Rattle.reading.specs.Reads.{small_by_index}
use Rattle.pack_counts.specs.Raise.{counted-alike}
use Rattle.pack_files.specs.Xnb.{refused_so, loaded_so}
use Rattle.pack_files.proofs.count_xnb.Goals as goal

pub returns-in-Err : goal.returns-in-Err
returns-in-Err c =
    let a = c.args in
    let told = sym c.in-Err.is ∙ c.load_part.ensures.value in
    record {
      figures_after = λ k. c.count_refused.ensures ∙ counted-alike _ _ (refused_so a.enums.now a.content.now a.words.now k told c.load_part.ensures.words_after).0 a.figures.now;
      words_unchanged = λ k. (refused_so a.enums.now a.content.now a.words.now k told c.load_part.ensures.words_after).1 ∙ sym k.zeros;
    }

pub returns-in-Ok : goal.returns-in-Ok
returns-in-Ok c =
    let a = c.args in
    let small = small_by_index a.content.now (λ i h. omega (arith, c.type_inv.content i)) in
    let told = sym c.in-Ok.is ∙ c.load_part.ensures.value in
    let n = c.load_part.auto.words in
    let so = rw (c.by_rows.ensures.0, c.by_rows.ensures.1) at c.count_loaded.ensures in
    record {
      figures_after = λ k. so ∙ counted-alike _ _ (loaded_so a.enums.now a.content.now a.words.now k small n told c.load_part.ensures.words_after).0 a.figures.now;
      words_unchanged = λ k. c.clear_range.ensures ∙ (loaded_so a.enums.now a.content.now a.words.now k small n told c.load_part.ensures.words_after).1 ∙ sym k.zeros;
    }

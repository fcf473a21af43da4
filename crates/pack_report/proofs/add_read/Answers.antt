use Rattle.std.specs.Prelude.{length}
use Rattle.std.proofs.Common.{sym, ◌∙◌, arith}
use Rattle.reading.specs.Reads.{small_by_index}
use Rattle.pack_report.specs.Add.{has, pack_figures, is_value, is_left, table_kept, table_cleared, all_cleared}
use Rattle.pack_report.proofs.add_read.Goals as goal

pub count_files-requires : goal.count_files-requires
count_files-requires c =
    let a = c.args in
    let small = small_by_index a.pack.now (λ i h. omega (arith, c.type_inv.pack i)) in
    let h = has a.pack.now small (length a.table.now) c.requires.0.0 in
    (omega (arith, h.count, h.lays.not_many), c.requires.1)

pub returns-then-is_err : goal.returns-then-is_err
returns-then-is_err c =
    let a = c.args in
    let small = small_by_index a.pack.now (λ i h. omega (arith, c.type_inv.pack i)) in
    let h = has a.pack.now small (length a.table.now) c.requires.0.0 in
    let e = c.count_files.ensures.figures_after ∙ pack_figures a.pack.now small a.enums.now a.table.now h c.requires.0.1 in
    record {
      value = c.sum-summed.ensures.value ∙ is_value a.enums.now a.pack.now (length a.table.now) h a.report.now _ e;
      report_after = c.sum-summed.ensures.into_after ∙ is_left a.enums.now a.pack.now (length a.table.now) h a.report.now _ e;
      table_after = c.clear.ensures ∙ all_cleared a.table.now ∙ table_cleared a.enums.now a.pack.now (length a.table.now) h a.report.now _ e _ c.sum-summed.ensures.value (sym c.is_err.ensures.value ∙ c.if-is_err.true);
      words_unchanged = c.count_files.ensures.words_unchanged;
    }

pub returns-else-is_err : goal.returns-else-is_err
returns-else-is_err c =
    let a = c.args in
    let small = small_by_index a.pack.now (λ i h. omega (arith, c.type_inv.pack i)) in
    let h = has a.pack.now small (length a.table.now) c.requires.0.0 in
    let e = c.count_files.ensures.figures_after ∙ pack_figures a.pack.now small a.enums.now a.table.now h c.requires.0.1 in
    record {
      value = c.sum-summed.ensures.value ∙ is_value a.enums.now a.pack.now (length a.table.now) h a.report.now _ e;
      report_after = c.sum-summed.ensures.into_after ∙ is_left a.enums.now a.pack.now (length a.table.now) h a.report.now _ e;
      table_after = c.requires.0.1 ∙ table_kept a.enums.now a.pack.now (length a.table.now) h a.report.now _ e _ c.sum-summed.ensures.value (sym c.is_err.ensures.value ∙ c.if-is_err.false);
      words_unchanged = c.count_files.ensures.words_unchanged;
    }

use Rattle.std.proofs.Common.{sym, ◌∙◌}
use Rattle.lookups.specs.Same.{same_part, same_text, same_signed, same_time}
use Rattle.branches.specs.Next.{same_next}
use Rattle.theorems.proofs.columned.look_up_both.Goals as goal

pub returns : goal.returns
returns c =
    let a = c.args in
    let file = a.file.now in
    let row = a.row.0 in
    let first = rw (c.by_rows.ensures.0, c.by_rows.ensures.1) at c.look_up.ensures in
    let second = rw (c.in_columns.ensures.0, c.in_columns.ensures.1) at c.look_up-2.ensures in
    record {
      looks_up = λ s. first ∙ rw (same_part s file row, same_text s file row, same_signed s file row, same_time s file row, same_next s row) (sym second);
      rows_value = first;
      columns_value = second;
    }

use Prim.Native.Nat.{suc}
use native.Mathlib.Numerals.{add-one}
use Rattle.page_rules.specs.Pages.{skips-three}
use Rattle.page_rules.proofs.next_of_page.Goals as goal

pub returns : goal.returns
returns c =
    let a = c.args in
    skips-three a.rows.table.grid a.rows.table.words.now a.rows.used (suc a.page) (rw add-one at c.next-area.ensures) c.next-image.ensures c.next.ensures

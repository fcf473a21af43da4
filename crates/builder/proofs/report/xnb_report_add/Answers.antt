use borrow.Author.Rules.{rules}
use mathlib.Core.Path.{◌≡◌, refl, sym, ap, ◌∙◌}
use lib.ListN.{length}
use Rattle.pack_report.specs.Add.{add_under}
use Rattle.builder.proofs.Reports.{add-refused, add-added}
use Rattle.builder.proofs.report.xnb_report_add.Goals as goal

three : {A B C : Type 0} → A → B → C → A × (B × C)
three a b c = (a, (b, c))

named : {A B C D : Type 0} → A × (B × (C × D)) → record { at_after : A; report_after : B; table_after : C; words_after : D }
named p = record { at_after = p.0; report_after = p.1.0; table_after = p.1.1.0; words_after = p.1.1.1 }

pub returns-in-Err : goal.returns-in-Err
returns-in-Err c =
    let a = c.args in
    let x = add_under a.enums.now (length a.words.now) (length a.table.now) a.report.now a.pack.now in
    named ((add-refused x (sym c.in-Err.is ∙ c.add.ensures.value), (three c.add.ensures.report_after c.add.ensures.table_after c.add.ensures.words_after)))

pub returns-in-Ok : goal.returns-in-Ok
returns-in-Ok c =
    let a = c.args in
    let x = add_under a.enums.now (length a.words.now) (length a.table.now) a.report.now a.pack.now in
    named ((add-added x (sym c.in-Ok.is ∙ c.add.ensures.value), (three c.add.ensures.report_after c.add.ensures.table_after c.add.ensures.words_after)))

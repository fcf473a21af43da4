use mathlib.Core.Path.{sym, ◌∙◌}
use Rattle.builder.proofs.XmlTold.{not_exported, all_exported}
use borrow.Author.Rules.{rules}
use Rattle.builder.proofs.xml.xnb_export_xml.Goals as goal

both : {A B : Type 0} → A → B → A × B
both a b = (a, b)

named : {A B C : Type 0} → A × (B × C) → record { value : A; out_after : B; words_after : C }
named p = record { value = p.0; out_after = p.1.0; words_after = p.1.1 }

pub returns-in-Err : goal.returns-in-Err
returns-in-Err c =
    named ((not_exported _ (sym c.in-Err.is ∙ c.export.ensures.value) c.packed.ensures, (both c.export.ensures.out_after c.export.ensures.words_after)))

pub returns-in-Ok : goal.returns-in-Ok
returns-in-Ok c = named ((all_exported _ (sym c.in-Ok.is ∙ c.export.ensures.value), (both c.export.ensures.out_after c.export.ensures.words_after)))

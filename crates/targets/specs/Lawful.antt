-- Names give lawful types alone: no `fixed` but of a kind whose size 01 fixes, and no enum but of one of 02's sizes. Assumes nothing.
use Rattle.std.specs.Prelude.{◌≡◌, List, [], ℕ}
use Rattle.std.proofs.Common.{sym, subst}
use Rattle.layout.specs.Target.{Target}
use Rattle.layout.specs.EnumList.{EnumEntry, EnumSize, Enums, write_enums, size_in}
use Rattle.layout.specs.Named.{Lawful, named}
use Rattle.names.specs.EntryLaws.{enums-written, enums-sized}
use Rattle.targets.specs.Coded.{reader-coded}

-- a name that a lawful list holds has one of 02's sizes
listed-sized : (es : List EnumEntry) → Enums es → (h : List ℕ) → (size_in es h ≡ 0 → ⊥) → EnumSize (size_in es h)
listed-sized es w = subst (λ (l : List EnumEntry). (h : List ℕ) → (size_in l h ≡ 0 → ⊥) → EnumSize (size_in l h)) (enums-written es w) (enums-sized (write_enums es))

pub named-lawful : (es : List EnumEntry) → Enums es → (name : List ℕ) (t : Target) → named es name t → Lawful t
unfolding named
named-lawful es w name t (n, formed, text_is, target) = ((reader-coded name es (listed-sized es w) 8 0 n [] formed (sym text_is)).got target).lawful

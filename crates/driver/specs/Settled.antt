-- What is left of a loaded file by its first fault. Assumes nothing.
use Rattle.std.specs.Prelude.{◌≡◌, refl, List, ℕ, length, replicate, Ok, Err}
use Rattle.std.proofs.Common.{sym, ap, ◌∙◌}
use Rattle.layout.specs.Target.{Target}
use Rattle.layout.specs.EnumList.{EnumEntry}
use Rattle.layout.specs.Rows.{Row}
use Rattle.table.specs.Grids.{rows_grid}
use Rattle.answers.specs.declared.Refusal.{Refusal}
use Rattle.answers.specs.Refusals.{refusal}
use Rattle.load.specs.declared.Loaded.{Loaded}
use Rattle.load.specs.Loads.{Loading}
use Rattle.profile.specs.Offences.{fine, fault, fault_of, Offence}
use Rattle.driver.specs.Rules.{Kept, to_fault, Accepted, From41}

abbrev pub Left : Offence → (entry exit : List ℕ) → Loaded → Loading → Type 0
Left fine entry exit l r = (r ≡ Ok l) × (exit ≡ entry)
Left (fault number place) entry exit l r = (r ≡ Err (refusal number place)) × (exit ≡ replicate (length entry) 0)

abbrev pub Settles : List EnumEntry → (file entry exit : List ℕ) → Loaded → Loading → Type 0
Settles es file entry exit l r =
    (targets : List Target) (rows : List Row) → Accepted es file (rows_grid (length entry)) entry l.rows l.readers l.padding targets rows → Left (fault_of file targets rows) entry exit l r

module _ (es : List EnumEntry) (file entry : List ℕ) (l : Loaded) {b : Kept} (f : From41 es file (rows_grid (length entry)) entry l.rows l.readers l.padding b) where
  pub settled-fine : {u : Unit {0}} → b ≡ Ok u → Settles es file entry entry l (Ok l)
  settled-fine e targets rows a =
      let q : fault_of file targets rows ≡ fine = sym (f targets rows a) ∙ ap to_fault e in
      rw q (refl, refl)

  pub settled-fault : {x : Refusal} {exit : List ℕ} → b ≡ Err x → exit ≡ replicate (length entry) 0 → Settles es file entry exit l (Err x)
  settled-fault {x} e z targets rows a =
      let q : fault_of file targets rows ≡ fault x.number x.place = sym (f targets rows a) ∙ ap to_fault e in
      rw q (refl, z)

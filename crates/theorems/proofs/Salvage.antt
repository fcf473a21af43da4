-- From what is demanded of salvaging to what is demanded of reading and salvaging again. Assumes nothing.
use Rattle.std.specs.Prelude.{Err, Ok, Result}
use mathlib.Core.Path.{◌≡◌, sym, ap, subst, ◌∙◌}
use mathlib.Core.List.{List}
use Prim.Native.Nat.{ℕ, ◌*◌, ◌≤◌}
use native.Mathlib.Omega.{arith}
use lib.ListN.{length, take}
use Rattle.laws.specs.Small.{differ}
use Rattle.pack_layout.specs.Pack.{marked, PackLays}
use Rattle.pack_layout.specs.Table.{files_room, Fitting}
use Rattle.pack_reading.specs.Pack.{pack_of, table_for}
use Rattle.pack_reading.proofs.Theorems.{files_are, table_is}
use Rattle.packs.specs.Files as packs
use Rattle.pack_salvage.specs.Scan.{Piece, kept_of}
use Rattle.theorems.specs.Salvage.{Scan, new_of, skips_of, Room, Salvages, ReadsSalvaged, SalvagesTwice}
use Rattle.theorems.specs.MarkLaws.{at_start}
use Rattle.answers.specs.Refusals.{refusal as refusal_at}
use Rattle.answers.specs.declared.Refusal.{Refusal}
use Rattle.salvage.specs.declared.Salvaged.{Salvaged}
use Rattle.salvage.specs.Salvaging.{salvaged_so}

module _ {pack out list end left : List ℕ} {r : Result Salvaged Refusal} (c : Salvages pack out list end left r) where
  -- the new pack, where the answer is its length
  new_pack : (ps : List Piece) → Scan pack ps → Room ps (length out) (length list) → {n m : ℕ} → r ≡ Ok (salvaged_so n m)
      → (n ≡ length (new_of ps)) × (take n end ≡ new_of ps) × PackLays marked (kept_of ps) (take n end)
  new_pack ps s h {n} {m} q =
      let e : Ok (salvaged_so (length (new_of ps)) (length (skips_of ps))) ≡ Ok (salvaged_so n m) = sym (c.salvages ps s h).0 ∙ q in
      let z : salvaged_so (length (new_of ps)) (length (skips_of ps)) ≡ salvaged_so n m = cc in
      let a : n ≡ length (new_of ps) = sym (ap (λ (s : Salvaged). s.length) z) in
      let t : take n end ≡ new_of ps = rw (a, (c.salvages ps s h).1) (at_start (new_of ps) out h.0).1 in
      let w = c.written n m q in
      let u = c.scans s.long in
      let same : w.0 ≡ ps = u.2 w.0 w.1 ∙ sym (u.2 ps s) in
      (a, t, subst (λ (l : List Piece). PackLays marked (kept_of l) (take n end)) same w.4)

  pub not_read : {number place room : ℕ} {table : List ℕ} {x : Result ℕ Refusal} → r ≡ Err (refusal_at number place) → ReadsSalvaged pack out list room table x
  not_read {number} {place} q = record {
    accepted = λ ps s h k. let e : Err (refusal_at number place) ≡ Ok (salvaged_so (length (new_of ps)) (length (skips_of ps))) = sym q ∙ (c.salvages ps s h).0 in differ cc;
  }

  pub reread : {n m room : ℕ} {table : List ℕ} {x : Result ℕ Refusal} → r ≡ Ok (salvaged_so n m)
      → x ≡ packs.answer_of (pack_of marked (take n end) room) → table ≡ table_for marked (take n end) room → ReadsSalvaged pack out list room table x
  reread {n} {m} {room} {table} {x} q a t = record {
    accepted = λ ps s h k.
        let f : Fitting marked (take n end) room = record { files = kept_of ps; lays = (new_pack ps s h q).2; room = k } in
        (a ∙ ap packs.answer_of (files_are marked (take n end) room f), t ∙ table_is marked (take n end) room f);
  }

  pub not_twice : {number place : ℕ} {second end₂ left₂ : List ℕ} {x : Result Salvaged Refusal} → r ≡ Err (refusal_at number place) → SalvagesTwice pack out list left₂ second end₂ x
  not_twice {number} {place} q = record {
    same = λ ps s h k. let e : Err (refusal_at number place) ≡ Ok (salvaged_so (length (new_of ps)) (length (skips_of ps))) = sym q ∙ (c.salvages ps s h).0 in differ cc;
  }

  pub twice : {n m : ℕ} {second end₂ left₂ : List ℕ} {x : Result Salvaged Refusal} → r ≡ Ok (salvaged_so n m) → Salvages (take n end) second left end₂ left₂ x → SalvagesTwice pack out list left₂ second end₂ x
  unfolding files_room
  twice {n} {m} {second} {end₂} {left₂} {x} q d = record {
    same = λ ps s h k.
        let w = new_pack ps s h q in
        let f : Fitting marked (take n end) (4 * 4096) = record { files = kept_of ps; lays = w.2; room = omega (arith, w.2.not_many) } in
        let room : length (take n end) ≤ length second = rw w.1 k in
        let y = d.stays f room in
        (rw (← w.1) y.0, rw (← w.1) y.1, y.2 ∙ (c.salvages ps s h).2);
  }

-- The files of a pack one after the other, and their entries in the table. Assumes nothing.
use mathlib.Core.Path.{◌≡◌, refl, sym, ap, ◌∙◌}
use mathlib.Core.List.{List, [], ◌∷◌, ◌++◌, append_assoc}
use Prim.Native.Nat.{ℕ, suc, ◌+◌, ◌*◌, ◌<◌, ◌≤◌}
use native.Mathlib.Omega.{arith}
use lib.ListN.{length, take, set, length-append, length-set}
use lib.Seq.{take-suc-set}
use Rattle.reading.specs.Answer.{refused}
use Rattle.pack_layout.specs.Pack.{Stored, record_bytes, records_bytes}
use Rattle.pack_layout.specs.Table.{Entry, entry, flat, entry_of, entries}
use Rattle.std.specs.Prelude.{Ok, Err}
use Rattle.answers.specs.Refusals.{refusal}
use Rattle.pack_records.specs.declared.Record.{Record}
use Rattle.packs.specs.Files.{files_from, Fills}
use Rattle.packs.specs.Walk.{Got, Walked, start, turn, ended}

-- ---- Four words

-- four stores at i, i + 1, .. are an entry behind what stands before i
pub four : (w : List ℕ) (i a b c d : ℕ) → i + 4 ≤ length w
    → take (i + 4) (set (set (set (set w i a) (i + 1) b) (i + 2) c) (i + 3) d) ≡ take i w ++ flat (entry a b c d ∷ [])
unfolding flat
four w i a b c d h =
    let h₁ : i + 1 ≡ suc i = omega arith in
    let h₂ : i + 2 ≡ suc (i + 1) = omega arith in
    let h₃ : i + 3 ≡ suc (i + 2) = omega arith in
    let h₄ : i + 4 ≡ suc (i + 3) = omega arith in
    let w₁ : List ℕ = set w i a in
    let w₂ : List ℕ = set w₁ (i + 1) b in
    let w₃ : List ℕ = set w₂ (i + 2) c in
    let l₁ : length w₁ ≡ length w = length-set w i a in
    let l₂ : length w₂ ≡ length w = length-set w₁ (i + 1) b ∙ l₁ in
    let l₃ : length w₃ ≡ length w = length-set w₂ (i + 2) c ∙ l₂ in
    let e₁ : take (i + 1) w₁ ≡ take i w ++ a ∷ [] = rw h₁ (take-suc-set w i a (omega arith)) in
    let e₂ : take (i + 2) w₂ ≡ take (i + 1) w₁ ++ b ∷ [] = rw h₂ (take-suc-set w₁ (i + 1) b (omega arith)) in
    let e₃ : take (i + 3) w₃ ≡ take (i + 2) w₂ ++ c ∷ [] = rw h₃ (take-suc-set w₂ (i + 2) c (omega arith)) in
    let e₄ : take (i + 4) (set w₃ (i + 3) d) ≡ take (i + 3) w₃ ++ d ∷ [] = rw h₄ (take-suc-set w₃ (i + 3) d (omega arith)) in
    e₄ ∙ rw (e₃, e₂, e₁) (simp append_assoc)

-- ---- Entries

flat_append : (es gs : List Entry) → flat (es ++ gs) ≡ flat es ++ flat gs
unfolding flat
flat_append [] gs = refl
flat_append (e ∷ es) gs = rw (flat_append es gs)

module _ (mark : List ℕ) where
  entries_append : (at : ℕ) (fs gs : List Stored) → entries mark at (fs ++ gs) ≡ entries mark at fs ++ entries mark (at + length (records_bytes mark fs)) gs
  unfolding entries records_bytes
  entries_append at [] gs = let z : at + 0 ≡ at = omega arith in rw z
  entries_append at (f ∷ fs) gs =
      let z : at + length (record_bytes mark f) + length (records_bytes mark fs) ≡ at + length (record_bytes mark f ++ records_bytes mark fs) = rw length-append (omega arith) in
      rw (entries_append (at + length (record_bytes mark f)) fs gs, z)

-- ---- The loop

module _ (mark file : List ℕ) (n room : ℕ) where
  -- i of the files that have room were read: their entries stand at the table's start
  pub record Reached (table : List ℕ) (i at : ℕ) : Type 0 where
    pub done : List Stored
    pub walked : Walked mark file n room done i at
    pub words : take (4 * i) table ≡ flat (entries mark 4 done)

  pub begin : (table : List ℕ) → Reached table 0 4
  unfolding entries flat
  begin table = record { done = []; walked = start mark file n room; words = refl }

  pub fills_refused : (table : List ℕ) {number place : ℕ} → files_from mark file n room ≡ refused number place → Fills mark (files_from mark file n room) table (Err (refusal number place))
  fills_refused table e = rw e refl

  module _ {table : List ℕ} {i at : ℕ} (r : Reached table i at) where
    pub next : i < n → i < room → {table' : List ℕ} {r' : Record} → Got mark file at r'
        → take (4 * i + 4) table' ≡ take (4 * i) table ++ flat (entry r'.start r'.size r'.first r'.count ∷ []) → Reached table' (i + 1) (r'.first + r'.count)
    unfolding entries
    next h k {table'} {r'} g t =
        let f = g.stored in
        let x : 4 * (i + 1) ≡ 4 * i + 4 = omega arith in
        record {
          done = r.done ++ f ∷ [];
          walked = turn mark file n room r.walked h k g;
          words = rw (x, t, r.words, g.entered, r.walked.place, entries_append mark 4 r.done (f ∷ [])) (sym (flat_append (entries mark 4 r.done) (entry_of mark (4 + length (records_bytes mark r.done)) f ∷ [])));
        }

    pub filled : n ≤ i → at ≡ length file → Fills mark (files_from mark file n room) table (Ok n)
    filled h k =
        let e = ended mark file n room r.walked h k in
        let c : length r.done ≡ i = r.walked.count in
        rw e.1 (ap (λ (k : ℕ). Ok k) e.0, rw c r.words)

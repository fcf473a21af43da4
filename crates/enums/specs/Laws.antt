-- Entries as they are written. Assumes nothing.
use Rattle.std.specs.Prelude.{◌≡◌, refl, List, [], ◌∷◌, ◌++◌, ℕ, suc, ◌+◌, ◌<◌, length, take, drop, get_or}
use Rattle.std.proofs.Common.{sym, ap, ◌∙◌, append_assoc, arith, length-append}
use Rattle.std.proofs.Math.Seq.{take-append_seam, drop-append-add, get_or-append_seam}
use Rattle.layout.specs.EnumList.{EnumEntry, entry, write_enums}

-- an entry as it is written, and what follows it
pub written-parts : (name : List ℕ) (size : ℕ) (rest : List ℕ) → (length name < length (name ++ (size ∷ rest))) × (take (length name) (name ++ (size ∷ rest)) ≡ name)
    × (get_or (name ++ (size ∷ rest)) (length name) 0 ≡ size) × (drop (suc (length name)) (name ++ (size ∷ rest)) ≡ rest)
written-parts name size rest =
    let z : suc (length name) ≡ length name + 1 = omega arith in (
      omega (arith, length-append name (size ∷ rest)),
      take-append_seam name (size ∷ rest),
      get_or-append_seam name size rest 0,
      ap (λ (k : ℕ). drop k (name ++ (size ∷ rest))) z ∙ drop-append-add name (size ∷ rest) 1,
    )

pub write-append : (es : List EnumEntry) (fs : List EnumEntry) → write_enums (es ++ fs) ≡ write_enums es ++ write_enums fs
unfolding write_enums
write-append [] fs = refl
write-append (entry name size ∷ es) fs =
    ap (λ (l : List ℕ). length name ∷ l) (ap (λ (l : List ℕ). name ++ (size ∷ l)) (write-append es fs) ∙ sym (append_assoc name (size ∷ write_enums es) (write_enums fs)))

-- Four bytes compared at once. Assumes nothing.
use mathlib.Core.Path.{◌≡◌, refl, sym, ap, ◌∙◌}
use mathlib.Core.Bool.{Bool, true, false, cond}
use mathlib.Core.List.{List, [], ◌∷◌}
use Prim.Native.Nat.{ℕ, suc, ◌+◌, ◌*◌, ◌≤◌, ◌<◌}
use native.Mathlib.Omega.{arith}
use lib.Dec.{eqb}
use lib.ListN.{length, drop, get_or}
use borrow.Author.Tests.{eqb-true}
use Rattle.layout.specs.Text.{ascii}
use Rattle.names.specs.Parse.{common}
use Rattle.names.specs.Common.{common_yes}
use Rattle.xml_layout.specs.Xml.{item_start, item_end, document_end}
use Rattle.xml_import.specs.Places.{Four, FourAt}
use Rattle.xml_escape.specs.Runs.{cons_at}

-- the lowest byte of a number, and the others
lowest : (a b x y : ℕ) → a < 256 → b < 256 → a + 256 * x ≡ b + 256 * y → (a ≡ b) × (x ≡ y)
lowest a b x y h k e = (omega arith, omega arith)

-- four bytes of one number
pub same_four : (s w : List ℕ) (at : ℕ) → ((k : ℕ) → get_or s k 0 < 256) → ((k : ℕ) → get_or w k 0 < 256)
    → get_or s at 0 + 256 * get_or s (at + 1) 0 + 65536 * get_or s (at + 2) 0 + 16777216 * get_or s (at + 3) 0 ≡ get_or w 0 0 + 256 * get_or w 1 0 + 65536 * get_or w 2 0 + 16777216 * get_or w 3 0 → FourAt w s at
same_four s w at f g e =
    let x = λ (k : ℕ). get_or s (at + k) 0 in
    let y = λ (k : ℕ). get_or w k 0 in
    let p = lowest (get_or s at 0) (y 0) (x 1 + 256 * (x 2 + 256 * x 3)) (y 1 + 256 * (y 2 + 256 * y 3)) (f at) (g 0) (omega (arith, e)) in
    let q = lowest (x 1) (y 1) (x 2 + 256 * x 3) (y 2 + 256 * y 3) (f (at + 1)) (g 1) p.1 in
    let r = lowest (x 2) (y 2) (x 3) (y 3) (f (at + 2)) (g 2) q.1 in
    record { first = p.0; second = q.0; third = r.0; fourth = r.1 }

-- a literal that stands, and a byte before it
spell : (w s : List ℕ) (a at : ℕ) → at < length s → get_or s at 0 ≡ a → length w ≡ common w (drop (at + 1) s) → length (a ∷ w) ≡ common (a ∷ w) (drop at s)
spell w s a at h b e = ap suc e ∙ sym (common_yes a (get_or s at 0) w (drop (at + 1) s) (sym b)) ∙ ap (common (a ∷ w)) (sym (cons_at s at h))

-- a list of bytes stands from a place on
pub Stand : (w s : List ℕ) (at : ℕ) → Type 0
Stand [] s at = Unit {0}
Stand (a ∷ w) s at = (get_or s at 0 ≡ a) × Stand w s (at + 1)

pub stand_common : (w s : List ℕ) (at : ℕ) → at + length w ≤ length s → Stand w s at → length w ≡ common w (drop at s)
unfolding common Stand
stand_common [] s at h p = refl
stand_common (a ∷ w) s at h p = spell w s a at (omega arith) p.0 (stand_common w s (at + 1) (omega arith) p.1)

module _ (s : List ℕ) (at : ℕ) where
  at2 : at + 1 + 1 ≡ at + 2
  at2 = omega arith

  at3 : at + 2 + 1 ≡ at + 3
  at3 = omega arith

  at4 : at + 3 + 1 ≡ at + 4
  at4 = omega arith

  at5 : at + 4 + 1 ≡ at + 5
  at5 = omega arith

  at6 : at + 5 + 1 ≡ at + 6
  at6 = omega arith

  pub amp_stands : at + 5 ≤ length s → get_or s at 0 ≡ 0x26 → Four s (at + 1) 0x61 0x6D 0x70 0x3B → 5 ≡ common (ascii "&amp;") (drop at s)
  unfolding ascii Stand
  amp_stands h b f =
      let e2 : at + 1 + 2 ≡ at + 3 = omega arith in
      let e3 : at + 1 + 3 ≡ at + 4 = omega arith in
      stand_common (0x26 ∷ 0x61 ∷ 0x6D ∷ 0x70 ∷ 0x3B ∷ []) s at h (rw (at2, at3, at4) (b, (f.first, (rw at2 at f.second, (rw e2 at f.third, (rw e3 at f.fourth, tt))))))

  pub lt_stands : at + 4 ≤ length s → Four s at 0x26 0x6C 0x74 0x3B → 4 ≡ common (ascii "&lt;") (drop at s)
  unfolding ascii Stand
  lt_stands h f = stand_common (0x26 ∷ 0x6C ∷ 0x74 ∷ 0x3B ∷ []) s at h (rw (at2, at3) (f.first, (f.second, (f.third, (f.fourth, tt)))))

  pub gt_stands : at + 4 ≤ length s → Four s at 0x26 0x67 0x74 0x3B → 4 ≡ common (ascii "&gt;") (drop at s)
  unfolding ascii Stand
  gt_stands h f = stand_common (0x26 ∷ 0x67 ∷ 0x74 ∷ 0x3B ∷ []) s at h (rw (at2, at3) (f.first, (f.second, (f.third, (f.fourth, tt)))))

  pub quot_stands : at + 6 ≤ length s → Four s at 0x26 0x71 0x75 0x6F → Four s (at + 2) 0x75 0x6F 0x74 0x3B → 6 ≡ common (ascii "&quot;") (drop at s)
  unfolding ascii Stand
  quot_stands h f g =
      let e2 : at + 2 + 2 ≡ at + 4 = omega arith in
      let e3 : at + 2 + 3 ≡ at + 5 = omega arith in
      stand_common (0x26 ∷ 0x71 ∷ 0x75 ∷ 0x6F ∷ 0x74 ∷ 0x3B ∷ []) s at h (rw (at2, at3, at4, at5) (f.first, (f.second, (f.third, (f.fourth, (rw e2 at g.third, (rw e3 at g.fourth, tt)))))))

  pub start-stands : at + 6 ≤ length s → Four s at 0x3C 0x49 0x74 0x65 → Four s (at + 2) 0x74 0x65 0x6D 0x3E → 6 ≡ common item_start (drop at s)
  unfolding item_start ascii Stand
  start-stands h f g =
      let e2 : at + 2 + 2 ≡ at + 4 = omega arith in
      let e3 : at + 2 + 3 ≡ at + 5 = omega arith in
      stand_common (0x3C ∷ 0x49 ∷ 0x74 ∷ 0x65 ∷ 0x6D ∷ 0x3E ∷ []) s at h (rw (at2, at3, at4, at5) (f.first, (f.second, (f.third, (f.fourth, (rw e2 at g.third, (rw e3 at g.fourth, tt)))))))

  pub end-stands : at + 7 ≤ length s → Four s at 0x3C 0x2F 0x49 0x74 → Four s (at + 3) 0x74 0x65 0x6D 0x3E → 7 ≡ common item_end (drop at s)
  unfolding item_end ascii Stand
  end-stands h f g =
      let e1 : at + 3 + 1 ≡ at + 4 = omega arith in
      let e2 : at + 3 + 2 ≡ at + 5 = omega arith in
      let e3 : at + 3 + 3 ≡ at + 6 = omega arith in
      stand_common (0x3C ∷ 0x2F ∷ 0x49 ∷ 0x74 ∷ 0x65 ∷ 0x6D ∷ 0x3E ∷ []) s at h (rw (at2, at3, at4, at5, at6) (f.first, (f.second, (f.third, (f.fourth, (rw e1 at g.second, (rw e2 at g.third, (rw e3 at g.fourth, tt))))))))

-- an item's start is no document's end
two_bytes : (x y z : Bool) (m n : ℕ) → (y ≡ true → z ≡ true → ⊥) → 6 ≡ cond x (suc (cond y m 0)) 0 → cond x (suc (cond z n 0)) 0 ≡ 21 → ⊥
two_bytes true true true m n f e k = f refl refl
two_bytes true true false m n f e k = absurd (omega arith)
two_bytes true false z m n f e k = absurd (omega arith)
two_bytes false y z m n f e k = absurd (omega arith)

one_byte : (x : Bool) → 6 ≡ cond x (suc 0) 0 → ⊥
one_byte true e = absurd (omega arith)
one_byte false e = absurd (omega arith)

pub start-no_end : (s : List ℕ) (at : ℕ) → 6 ≡ common item_start (drop at s) → common document_end (drop at s) ≡ 21 → ⊥
unfolding item_start document_end ascii common
start-no_end s at e k = go (drop at s) e k where
  go : (l : List ℕ) → 6 ≡ common item_start l → common document_end l ≡ 21 → ⊥
  go [] e k = absurd (omega arith)
  go (b ∷ []) e k = one_byte (eqb 0x3C b) e
  go (b ∷ d ∷ l) e k = two_bytes (eqb 0x3C b) (eqb 0x49 d) (eqb 0x2F d) _ _ (λ p q. omega (arith, eqb-true 0x49 d p, eqb-true 0x2F d q)) e k

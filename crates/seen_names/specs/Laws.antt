-- A noted name stays noted, whatever is noted later. Assumes nothing.
use Rattle.std.specs.Prelude.{◌≡◌, Bool, ◌||◌, List, ℕ, zero, suc, ◌+◌, ◌*◌, ◌/◌, ◌%◌, ◌≤◌, ◌<◌, max, length, set}
use Rattle.std.proofs.Math.Path.{refl}
use Rattle.std.proofs.Common.{sym, ap, ap₂, ◌∙◌, arith, mod-lt, length-set}
use Rattle.std.proofs.Math.Bool.{true, false}
use Rattle.std.proofs.Math.Nat.{zero-max, max-zero, suc-max-suc, max-le}
use Rattle.std.proofs.Math.Arith.{bin_ind, digits_div, digits_mod}
use Rattle.std.specs.Int.Bits.{bit_or, or_step, or_self}
use Rattle.std.proofs.lemmas.Nat.{or_comm}
use Rattle.std.proofs.Math.Dec.{eqb}
use Rattle.std.proofs.Math.ListN.{get_or}
use Rattle.std.proofs.Math.Seq.{get_or-set_same, get_or-set_other, set_out}
use borrow.Author.Tests.{eqb-true, eqb-false, eq-eqb, ne_eqb}
use Rattle.seen_names.specs.Sum.{spread_of, sum_of}
use Rattle.seen_names.specs.Seen.{bits_of, cell_of, marks_of, marked_in, is_noted, noted}

max_assoc : (a b c : ℕ) → max (max a b) c ≡ max a (max b c)
max_assoc zero b c = rw (zero-max b, zero-max (max b c))
max_assoc (suc a) zero c = rw (max-zero (suc a), zero-max c)
max_assoc (suc a) (suc b) zero = rw (max-zero (max (suc a) (suc b)), max-zero (suc b))
max_assoc (suc a) (suc b) (suc c) =
    rw (suc-max-suc a b, suc-max-suc (max a b) c, suc-max-suc b c, suc-max-suc a (max b c), max_assoc a b c)

-- the digits of a number, each 0 or 1
digit : (a b : ℕ) → max (a % 2) (b % 2) < 2
digit a b =
    let h : max (a % 2) (b % 2) ≤ 1 = max-le (omega arith) (omega arith) in
    omega arith

or_half : (a b : ℕ) → bit_or a b / 2 ≡ bit_or (a / 2) (b / 2)
or_half a b = ap (λ (x : ℕ). x / 2) (or_step a b) ∙ digits_div (bit_or (a / 2) (b / 2)) (digit a b)

or_odd : (a b : ℕ) → bit_or a b % 2 ≡ max (a % 2) (b % 2)
or_odd a b = ap (λ (x : ℕ). x % 2) (or_step a b) ∙ digits_mod (bit_or (a / 2) (b / 2)) (digit a b)

or_assoc : (a b c : ℕ) → bit_or (bit_or a b) c ≡ bit_or a (bit_or b c)
or_assoc a =
    bin_ind (λ (n : ℕ). (b c : ℕ) → bit_or (bit_or n b) c ≡ bit_or n (bit_or b c)) (λ b c. refl)
    (λ n ih b c. or_step (bit_or n b) c
    ∙ ap₂ (λ (x y : ℕ). bit_or x (c / 2) * 2 + max y (c % 2)) (or_half n b) (or_odd n b)
    ∙ ap₂ (λ (x y : ℕ). x * 2 + y) (ih (b / 2) (c / 2)) (max_assoc (n % 2) (b % 2) (c % 2))
    ∙ sym (or_step n (bit_or b c) ∙ ap₂ (λ (x y : ℕ). bit_or (n / 2) x * 2 + max (n % 2) y) (or_half b c) (or_odd b c))) a

-- bits that are set stay set when more are set
or_kept : (w m k : ℕ) → bit_or w k ≡ w → bit_or (bit_or w m) k ≡ bit_or w m
or_kept w m k e = or_assoc w m k ∙ ap (bit_or w) (or_comm m k) ∙ sym (or_assoc w k m) ∙ ap (λ (x : ℕ). bit_or x m) e

or_twice : (w m : ℕ) → bit_or (bit_or w m) m ≡ bit_or w m
or_twice w m = or_assoc w m m ∙ ap (bit_or w) (or_self m)

-- the name's bits are set in its cell
abbrev Set : (seen name : List ℕ) → Type 0
Set seen name = marked_in seen name ≡ get_or seen (cell_of (length seen) name) 0

set-noted : (seen name : List ℕ) → Set seen name → is_noted seen name ≡ true
unfolding is_noted
set-noted seen name e = go (eqb (length seen) 0) where
  go : (b : Bool) → (b || eqb (marked_in seen name) (get_or seen (cell_of (length seen) name) 0)) ≡ true
  go true = refl
  go false = eq-eqb _ _ e

noted-set : (seen name : List ℕ) → (length seen ≡ 0 → ⊥) → is_noted seen name ≡ true → Set seen name
unfolding is_noted
noted-set seen name f n = go (eqb (length seen) 0) refl n where
  go : (b : Bool) → eqb (length seen) 0 ≡ b → (b || eqb (marked_in seen name) (get_or seen (cell_of (length seen) name) 0)) ≡ true → Set seen name
  go true q e = absurd (f (eqb-true (length seen) 0 q))
  go false q e = eqb-true _ _ e

none-noted : (seen name : List ℕ) → length seen ≡ 0 → is_noted seen name ≡ true
unfolding is_noted
none-noted seen name e = rw (eq-eqb (length seen) 0 e)

cell-inside : (seen name : List ℕ) → (length seen ≡ 0 → ⊥) → cell_of (length seen) name < length seen
unfolding cell_of
cell-inside seen name f = mod-lt _ (omega (arith, f))

noted-length : (seen name : List ℕ) → length (noted seen name) ≡ length seen
unfolding noted
noted-length seen name = length-set seen _ _

-- of a table with cells
module _ (seen name : List ℕ) (f : length seen ≡ 0 → ⊥) where
  abbrev cell : List ℕ → ℕ
  cell other = cell_of (length seen) other

  at_cell : get_or (noted seen name) (cell name) 0 ≡ marked_in seen name
  unfolding noted
  at_cell = get_or-set_same seen (cell_of (length seen) name) _ 0 (cell-inside seen name f)

  still_set : (other : List ℕ) → Set seen other → bit_or (get_or (noted seen name) (cell other) 0) (marks_of other) ≡ get_or (noted seen name) (cell other) 0
  unfolding noted
  still_set other e = go (eqb (cell other) (cell name)) refl where
    go : (b : Bool) → eqb (cell other) (cell name) ≡ b → bit_or (get_or (noted seen name) (cell other) 0) (marks_of other) ≡ get_or (noted seen name) (cell other) 0
    go true q =
        let z : cell other ≡ cell name = eqb-true (cell other) (cell name) q in
        let y : bit_or (get_or seen (cell name) 0) (marks_of other) ≡ get_or seen (cell name) 0 = rw z at e in
        rw (z, at_cell) (or_kept (get_or seen (cell name) 0) (marks_of name) (marks_of other) y)
    go false q =
        let y : get_or (noted seen name) (cell other) 0 ≡ get_or seen (cell other) 0 = get_or-set_other seen (cell name) (cell other) _ 0 (eqb-false (cell other) (cell name) q) in
        rw y e

-- a table with cells, or one without
by_cells : (seen : List ℕ) {Q : Type 0} → (length seen ≡ 0 → Q) → ((length seen ≡ 0 → ⊥) → Q) → Q
by_cells seen {Q} f g = go (eqb (length seen) 0) refl where
  go : (b : Bool) → eqb (length seen) 0 ≡ b → Q
  go true q = f (eqb-true (length seen) 0 q)
  go false q = g (eqb-false (length seen) 0 q)

-- a name that was noted just now is noted
pub noted_now : (seen name : List ℕ) → is_noted (noted seen name) name ≡ true
noted_now seen name =
    by_cells seen (λ e. none-noted (noted seen name) name (noted-length seen name ∙ e))
    (λ f. set-noted (noted seen name) name (rw (noted-length seen name, at_cell seen name f) (or_twice (get_or seen (cell_of (length seen) name) 0) (marks_of name))))

-- a name that was noted before is still noted
pub noted_still : (seen name other : List ℕ) → is_noted seen other ≡ true → is_noted (noted seen name) other ≡ true
noted_still seen name other n =
    by_cells seen (λ e. none-noted (noted seen name) other (noted-length seen name ∙ e))
    (λ f. set-noted (noted seen name) other (rw (noted-length seen name) (still_set seen name f other (noted-set seen other f n))))

-- noting in a table without cells
pub note_none : (seen name : List ℕ) → length seen ≡ 0 → (true ≡ is_noted seen name) × (seen ≡ noted seen name)
unfolding noted
note_none seen name e = (sym (none-noted seen name e), sym (set_out seen _ _ (omega arith)))

-- noting in one with cells, by the sums that pick the cell and the bits
pub note_some : (seen name : List ℕ) {sum first second bits : ℕ} → (length seen ≡ 0 → ⊥) → sum ≡ sum_of name → first ≡ spread_of sum → second ≡ spread_of first → bits ≡ bits_of second
    → (eqb (bit_or (get_or seen (first / 65536 % length seen) 0) bits) (get_or seen (first / 65536 % length seen) 0) ≡ is_noted seen name)
    × (set seen (first / 65536 % length seen) (bit_or (get_or seen (first / 65536 % length seen) 0) bits) ≡ noted seen name)
unfolding noted is_noted cell_of marks_of
note_some seen name f s e d b = rw (ne_eqb (length seen) 0 f, b, d, e, s) (refl, refl)

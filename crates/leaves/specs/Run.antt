-- Values one after the other that have no children and need no reader list. Assumes nothing.
use Rattle.std.specs.Prelude.{◌≡◌, cond, List, eqb, length, get_or, replicate, Ok, Err}
use Rattle.std.proofs.Math.Path.{refl}
use Rattle.std.proofs.Common.{ap}
use Prim.Native.Nat.{ℕ, zero, suc, ◌+◌, ◌*◌, ◌-◌, ◌/◌, ◌%◌, ◌≤◌, ◌<◌, max}
use native.Mathlib.Omega.{arith}
use Rattle.layout.specs.Image.{levels}
use Rattle.layout.specs.Slot.{Slot, leaves, pairs, Plan}
use Rattle.images.specs.Level.{level_size_of}
use Rattle.leaves.specs.declared.plain.Plain.{Plain}
use Rattle.leaves.specs.declared.plain.Plain.TheVariants.{Level}
use Rattle.leaves.specs.declared.run.Run.{Run}
use Rattle.leaves.specs.declared.run.Run.TheVariants.{Same, Turns, Levels}
use Rattle.reading.specs.Walk.{Outcome}
use Rattle.table.specs.declared.Grid.{Grid}
use Rattle.table.specs.Word.{in_word}
use Rattle.walked.specs.Contract.{Walk, reaching}
use Rattle.walked.specs.Leaf.{leaf_answer}
use Rattle.walked.specs.Loop.{Reading, same}
use Rattle.leaves.specs.Plain.{plain_slot, Lawful, Begin, plain_pad, plain_value, value_left}

-- the slots that the values stand in
abbrev pub run_slots : Run → List Slot
run_slots (Same p n) = replicate n (plain_slot p)
run_slots (Turns p q n) = pairs n (plain_slot p) (plain_slot q)
run_slots (Levels format w h n) = leaves (levels format w h n)

-- the values are lawful, and an image keeps its bounds
abbrev pub LawfulRun : Run → Type 0
LawfulRun (Same p n) = Lawful p
LawfulRun (Turns p q n) = Lawful p × Lawful q
LawfulRun (Levels format w h n) = (format ≤ 18) × (1 ≤ w) × (w ≤ 4096) × (1 ≤ h) × (h ≤ 4096) × (n ≤ 13)

-- how value i stands
unfoldable pub turn_of : Run → ℕ → Plain
turn_of (Same p n) i = p
turn_of (Turns p q n) i = cond (eqb (i % 2) 0) p q
turn_of (Levels format w h n) i = Level (level_size_of format w h i)

-- a value was read, or refused
abbrev pub onward : Walk → List ℕ → (ℕ → ℕ → ℕ → List ℕ → Walk × List ℕ) → Walk × List ℕ
onward (Err e) w rest = (Err e, w)
onward (Ok r) w rest = rest r.next r.used r.padding w

module _ (g : Grid) (file : List ℕ) (shared : ℕ) (run : Run) (depth parent : ℕ) where
  -- so many values from value i on, where those before have the padding `sum`: the answer, and the words
  unfoldable pub run_from : (left i at used sum : ℕ) → List ℕ → Walk × List ℕ
  run_from zero i at used sum w = (reaching used sum at, w)
  run_from (suc left) i at used sum w =
      onward (leaf_answer used (plain_pad file (turn_of run i) 0 at) (plain_value file g.room shared (turn_of run i) at used depth))
      (value_left g file w shared (turn_of run i) at used depth parent)
      (λ a u p v. run_from left (i + 1) a u (in_word (sum + p)) v)

  -- all of them
  abbrev pub run_of : (at used : ℕ) → List ℕ → Walk × List ℕ
  run_of at used w = run_from (length (run_slots run)) 0 at used 0 w

  -- value i of n, as it was read
  pub run-turn : (n i at used sum : ℕ) (w v : List ℕ) (p : Plain) (o : Walk) → i < n → p ≡ turn_of run i
      → o ≡ leaf_answer used (plain_pad file p 0 at) (plain_value file g.room shared p at used depth) → v ≡ value_left g file w shared p at used depth parent
      → run_from (n - i) i at used sum w ≡ onward o v (λ a u p x. run_from (n - (i + 1)) (i + 1) a u (in_word (sum + p)) x)
  unfolding run_from
  run-turn n i at used sum w v p o h e q z =
      let m : n - i ≡ suc (n - (i + 1)) = omega arith in
      rw (m, ← e, ← q, ← z)

  pub run_end : (n i at used sum : ℕ) (w : List ℕ) → n ≤ i → run_from (n - i) i at used sum w ≡ (reaching used sum at, w)
  unfolding run_from
  run_end n i at used sum w h =
      let m : n - i ≡ 0 = omega arith in
      rw m

pub length_pairs : (n : ℕ) (x y : Slot) → length (pairs n x y) ≡ 2 * n
unfolding pairs
length_pairs zero x y = refl
length_pairs (suc n) x y = omega (arith, length_pairs n x y)

pub length-levels : (f w h n : ℕ) → length (leaves (levels f w h n)) ≡ n
unfolding levels leaves
length-levels f w h zero = refl
length-levels f w h (suc n) = ap suc (length-levels f (max 1 (w / 2)) (max 1 (h / 2)) n)

pub pair_even : (n i : ℕ) (x y d : Slot) → i < 2 * n → i % 2 ≡ 0 → get_or (pairs n x y) i d ≡ x
unfolding pairs
pair_even zero i x y d h e = absurd (omega arith)
pair_even (suc n) zero x y d h e = refl
pair_even (suc n) (suc zero) x y d h e = absurd (omega arith)
pair_even (suc n) (suc (suc i)) x y d h e = pair_even n i x y d (omega arith) (omega arith)

pub pair_odd : (n i : ℕ) (x y d : Slot) → i < 2 * n → (i % 2 ≡ 0 → ⊥) → get_or (pairs n x y) i d ≡ y
unfolding pairs
pair_odd zero i x y d h e = absurd (omega arith)
pair_odd (suc n) zero x y d h e = absurd (e refl)
pair_odd (suc n) (suc zero) x y d h e = refl
pair_odd (suc n) (suc (suc i)) x y d h e = pair_odd n i x y d (omega arith) (λ q. e (omega arith))

-- the next value may begin where the values so far have ended
pub begin_on : {g : Grid} {file : List ℕ} {step : Slot → ℕ → ℕ → Outcome} {plan₀ plan : Plan} {w₀ : List ℕ} {at used : ℕ} {w : List ℕ} {next row sum i : ℕ}
    → Begin file w₀ g at used → Reading g file step plan₀ w₀ at used w plan next row sum i → Begin file w g next row
begin_on {g} {file} {step} {plan₀} {plan} {w₀} {at} {used} {w} {next} {row} {sum} {i} b r =
    let l : length w ≡ length w₀ = same g file step plan₀ w₀ at used r in
    record { long = omega (arith, b.long); few = b.few; rows = r.fits b.rows; place = r.inside b.place; short = b.short }

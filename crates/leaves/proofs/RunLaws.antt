-- Values one after the other that have no children and need no reader list. Assumes nothing.
use Rattle.std.specs.Prelude.{◌≡◌, Bool, true, false, cond, List, [], ◌∷◌, eqb, length, get_or, drop}
use Rattle.std.proofs.Math.Path.{refl}
use Rattle.std.proofs.Common.{sym, ap, ◌∙◌, add-one, drop_of_length-le, drop-cons, eqb-true}
use Prim.Native.Nat.{ℕ, zero, suc, ◌+◌, ◌%◌, ◌≤◌, ◌<◌}
use native.Mathlib.Omega.{arith}
use Rattle.std.proofs.lemmas.List.{length-replicate, get_or-replicate}
use Rattle.layout.specs.Image.{levels}
use Rattle.layout.specs.Slot.{Slot, leaf, level, leaves, each, Plan, stop, put}
use Rattle.images.specs.Level.{level_size_of}
use Rattle.images.specs.Laws.{level-size}
use Rattle.leaves.specs.declared.plain.Plain.{Plain}
use Rattle.leaves.specs.declared.plain.Plain.TheVariants.{Level}
use Rattle.leaves.specs.declared.run.Run.{Run}
use Rattle.leaves.specs.declared.run.Run.TheVariants.{Same, Turns, Levels}
use Rattle.std.proofs.lemmas.Bool.{eqb-false}
use Rattle.layout.specs.Target.{Target}
use Rattle.reading.specs.Answer.{Answer}
use Rattle.reading.specs.Reads.{Small}
use Rattle.reading.specs.Walk.{Outcome, sequence, walk}
use Rattle.reading.proofs.Bounds.{walk_bounds, walk_single}
use Rattle.table.specs.declared.Grid.{Grid}
use Rattle.table.specs.Word.{in_word}
use Rattle.std.specs.Prelude.{Ok, Err}
use Rattle.walked.specs.Written.{written}
use Rattle.walked.specs.Contract.{Walk, seen, reaching, padded, Walked}
use Rattle.walked.specs.Leaf.{leaf_answer}
use Rattle.walked.specs.Loop.{Reading, start, turn, ended, give_up, got, lost, refusing, reading, counted-read, counted-refused}
use Rattle.leaves.specs.Plain.{plain_slot, Lawful, Begin, plain_pad, plain_value, value_left}
use Rattle.leaves.proofs.PlainLaws.{plain_walked}
use Rattle.leaves.specs.Run.{LawfulRun, begin_on, length-levels, length_pairs, onward, pair_even, pair_odd, run_from, run_of, run_slots, turn_of}

-- how value i stands in its slot
record Turn (run : Run) (i : ℕ) (p : Plain) : Type 0 where
  stands : get_or (run_slots run) i (plain_slot p) ≡ plain_slot p
  lawful : Lawful p

level_at : (zs : List ℕ) (i : ℕ) (d : Slot) → i < length (leaves zs) → get_or (leaves zs) i d ≡ leaf (level (get_or zs i 0))
unfolding leaves
level_at [] i d h = absurd (omega arith)
level_at (z ∷ zs) zero d h = refl
level_at (z ∷ zs) (suc i) d h = level_at zs i d (omega arith)

same_turn : (p : Plain) (n i : ℕ) → Lawful p → i < length (run_slots (Same p n)) → Turn (Same p n) i p
same_turn p n i l h = record { stands = get_or-replicate n i (plain_slot p) (plain_slot p) (omega (arith, length-replicate n (plain_slot p))); lawful = l }

pair_turn : (p q : Plain) (n i : ℕ) → Lawful p → Lawful q → i < length (run_slots (Turns p q n)) → (b : Bool) → eqb (i % 2) 0 ≡ b → Turn (Turns p q n) i (cond b p q)
pair_turn p q n i l m h true e = record { stands = pair_even n i (plain_slot p) (plain_slot q) (plain_slot p) (omega (arith, length_pairs n (plain_slot p) (plain_slot q))) (eqb-true (i % 2) 0 e); lawful = l }
pair_turn p q n i l m h false e = record { stands = pair_odd n i (plain_slot p) (plain_slot q) (plain_slot q) (omega (arith, length_pairs n (plain_slot p) (plain_slot q))) (eqb-false (i % 2) 0 e); lawful = m }

level-turn : (f w h n i : ℕ) → LawfulRun (Levels f w h n) → i < length (run_slots (Levels f w h n)) → Turn (Levels f w h n) i (Level (level_size_of f w h i))
level-turn f w h n i l k =
    let m : i < n = omega (arith, length-levels f w h n) in
    let z : level_size_of f w h i ≡ get_or (levels f w h n) i 0 = level-size f w h i n m (l.0, l.1, l.2, l.3, l.4, omega arith) in
    record { stands = rw z (level_at (levels f w h n) i _ k); lawful = tt }

turn_of_lem : (run : Run) → LawfulRun run → (i : ℕ) → i < length (run_slots run) → Turn run i (turn_of run i)
unfolding turn_of
turn_of_lem (Same p n) l i h = same_turn p n i l h
turn_of_lem (Turns p q n) l i h = pair_turn p q n i l.0 l.1 h (eqb (i % 2) 0) refl
turn_of_lem (Levels f w h n) l i k = level-turn f w h n i l k

-- slot i of some slots, and what follows it
next_slot : (slots : List Slot) (i : ℕ) (x : Slot) → i < length slots → get_or slots i x ≡ x → each (drop i slots) ≡ put x (λ n. each (drop (i + 1) slots))
unfolding each
next_slot slots i x h e = rw (add-one i, drop-cons slots i x h, e)

no_slot : (slots : List Slot) (i : ℕ) → length slots ≤ i → each (drop i slots) ≡ stop
unfolding each
no_slot slots i h = rw (drop_of_length-le slots {i = i} h)

-- what the walk answers, where the values may begin
module _ (g : Grid) (file : List ℕ) (small : Small file) (shared : ℕ) (run : Run) (l : LawfulRun run) (readers : List Target) (depth parent : ℕ) (w₀ : List ℕ) (at used : ℕ) (begin : Begin file w₀ g at used) where
  abbrev step : Slot → ℕ → ℕ → Outcome
  step = λ x a u. walk file readers shared g.room depth x a u parent

  abbrev plan : Plan
  plan = each (run_slots run)

  abbrev Read : (w : List ℕ) (next row sum i : ℕ) → Type 0
  Read w next row sum i = Reading g file step plan w₀ at used w (each (drop i (run_slots run))) next row sum i

  abbrev Whole : Walk × List ℕ → Type 0
  Whole o = Walked g file w₀ o.1 used (seen (sequence step plan at used)) o.0

  -- value i, and those behind it
  module _ (i next row sum : ℕ) (w : List ℕ) (h : i < length (run_slots run)) (r : Read w next row sum i) (rest : ℕ → ℕ → ℕ → List ℕ → Walk × List ℕ)
      (on : (a u p : ℕ) (v : List ℕ) → Read v a u (in_word (sum + p)) (i + 1) → Whole (rest a u p v)) where
    abbrev p : Plain
    p = turn_of run i

    abbrev value : Answer ℕ
    value = plain_value file g.room shared p next row depth

    abbrev words : List ℕ
    words = value_left g file w shared p next row depth parent

    t : Turn run i p
    t = turn_of_lem run l i h

    one : Walked g file w words row (seen (step (plain_slot p) next row)) (leaf_answer row (plain_pad file p 0 next) value)
    one = plain_walked file g shared p next row w small (begin_on begin r) t.lawful readers depth parent

    here : Reading g file step plan w₀ at used w (put (plain_slot p) (λ n. each (drop (i + 1) (run_slots run)))) next row sum i
    here = rw (next_slot (run_slots run) i (plain_slot p) h t.stands) at r

    value_walked : (o : Walk) → leaf_answer row (plain_pad file p 0 next) value ≡ o → Whole (onward o words rest)
    value_walked (Err e) z = refusing (counted-refused _ (give_up g file step plan w₀ at used (plain_slot p) (λ n. each (drop (i + 1) (run_slots run))) here (lost one z)))
    value_walked (Ok r) z =
        let y = got one z in
        on r.next r.used r.padding words (turn g file step plan w₀ at used (plain_slot p) (λ n. each (drop (i + 1) (run_slots run))) here y
        (walk_single file readers shared g.room small depth (plain_slot p) next row parent y.taken r.next y.is)
        (walk_bounds file readers shared g.room small depth (plain_slot p) next row parent y.taken r.next y.is))

  ended_walked : (i next row sum : ℕ) (w : List ℕ) → length (run_slots run) ≤ i → Read w next row sum i → Whole (reaching row sum next, w)
  ended_walked i next row sum w h r =
      let e = ended g file step plan w₀ at used (rw (no_slot (run_slots run) i h) at r) in
      let c = counted-read _ e.0 in
      reading c.0 c.1 (sym c.2) (e.2 ∙ ap (padded file) (sym c.3)) (e.1 ∙ ap (written g w₀ used) (sym c.3))

  from_walked : (left i next row sum : ℕ) (w : List ℕ) → left + i ≡ length (run_slots run) → Read w next row sum i → Whole (run_from g file shared run depth parent left i next row sum w)
  unfolding run_from
  from_walked zero i next row sum w e r = ended_walked i next row sum w (omega arith) r
  from_walked (suc left) i next row sum w e r =
      value_walked i next row sum w (omega arith) r (λ a u p v. run_from g file shared run depth parent left (i + 1) a u (in_word (sum + p)) v)
      (λ a u p v r'. from_walked left (i + 1) a u (in_word (sum + p)) v (omega arith) r') _ refl

  pub run_walked : Whole (run_of g file shared run depth parent at used w₀)
  run_walked = from_walked (length (run_slots run)) 0 at used 0 w₀ (omega arith) (start g file step plan w₀ at used)

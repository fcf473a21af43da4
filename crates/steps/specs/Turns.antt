-- The values of a nest one after the other, as a loop walks them: what is known after some of them. Assumes nothing.
use Rattle.std.specs.Prelude.{◌≡◌, refl, List, ℕ, ◌+◌, ◌%◌, ◌^◌, ◌≤◌, ◌<◌, Result, Ok, Err}
use Rattle.std.proofs.Common.{ap, subst, ◌∙◌, arith}
use Rattle.answers.specs.Refusals.{refusal}
use Rattle.answers.specs.declared.Refusal.{Refusal}
use Rattle.laws.specs.Small.{differ}
use Rattle.layout.specs.Target.{Target}
use Rattle.layout.specs.Tree.{count, told_of}
use Rattle.layout.specs.Slot as L
use Rattle.layout.specs.Slot.{Plan, stop, put}
use Rattle.reading.specs.Answer.{Answer, refused, read}
use Rattle.reading.specs.Reads.{Small}
use Rattle.reading.specs.Walk.{Taken, Outcome, sequence, walk}
use Rattle.reading.proofs.Bounds.{walk_bounds, walk_single}
use Rattle.table.specs.declared.Grid.{Grid}
use Rattle.table.specs.Word.{in_word}
use Rattle.walked.specs.declared.Reached.{Reached}
use Rattle.walked.specs.Written.{written}
use Rattle.walked.specs.Contract.{seen, reaching, padded, Walked}
use Rattle.walked.specs.Loop.{Counted, counted, Got, Reading, start, turn, ended, give_up}
use Rattle.leaves.specs.Plain.{Begin}
use Rattle.leaves.specs.Run.{begin_on}
use Rattle.heads.specs.declared.nest.Nest.{Nest}
use Rattle.heads.specs.declared.nest.Stage.{Stage}
use Rattle.heads.specs.Placed.{SlotIs}
use Rattle.heads.specs.Plans.{Prelude, NestIs, StageIs, Heard, begin_of, after_of, slot_at}
use Rattle.heads.specs.Nests.{ends, goes}
use Rattle.meshes.specs.Tells.{told_is}
use Rattle.steps.specs.declared.Children.{Children}
use Rattle.steps.specs.Walks.{walk-takes}

-- so many children, and what was reached
abbrev pub children : (count : ℕ) → Reached → Children
children count reached = record { count = count; reached = reached }

-- 01's number and place for a refusal; for children their number, their end, the rows used and their padding
abbrev pub children_of : (file : List ℕ) → Answer Counted → Result Children Refusal
children_of file (refused n p) = Err (refusal n p)
children_of file (read a e) = Ok (children a.2 (record { used = a.0; padding = padded file a.1; next = e }))

-- the new rows stand in the words; after a refusal the words may be anything
abbrev pub counted_words : Grid → (exit entry : List ℕ) (used : ℕ) → Answer Counted → List ℕ
counted_words g exit entry used (refused n p) = exit
counted_words g exit entry used (read a e) = written g entry used a.1

pub record Counts (g : Grid) (file entry exit : List ℕ) (used : ℕ) (o : Answer Counted) (r : Result Children Refusal) : Type 0 where
  pub answers : r ≡ children_of file o
  pub writes : exit ≡ counted_words g exit entry used o

-- the children that were counted were walked
pub counts_walked : {g : Grid} {file entry exit : List ℕ} {used n : ℕ} {r : Reached} (o : Outcome) → Counts g file entry exit used (counted o) (Ok (children n r))
    → Walked g file entry exit used (seen o) (reaching r.used r.padding r.next) × ((a : Taken) (f : ℕ) → o ≡ read a f → n ≡ count a.2)
unfolding seen counted
counts_walked (refused m p) c = absurd (let q = c.answers in differ cc)
counts_walked {g} {file} {entry} {exit} {used} {n} {r} (read a f) c =
    let q : ◌≡◌ {A = Result Children Refusal} (Ok (children n r)) (Ok (children (count a.2) (record { used = a.0; padding = padded file a.1; next = f }))) = c.answers in
    let y : children n r ≡ children (count a.2) (record { used = a.0; padding = padded file a.1; next = f }) = cc in
    let k : n ≡ count a.2 = ap (λ (x : Children). x.count) y in
    let z : ◌≡◌ {A = Reached} r (record { used = a.0; padding = padded file a.1; next = f }) = ap (λ (x : Children). x.reached) y in
    (record { answers = ap (λ (x : Reached). reaching x.used x.padding x.next) z; writes = c.writes }, λ b m e. let y : a ≡ b = cc in k ∙ ap (λ (t : Taken). count t.2) y)

pub counts_refused : {g : Grid} {file entry exit : List ℕ} {used n p : ℕ} (o : Outcome) → Counts g file entry exit used (counted o) (Err (refusal n p)) → o ≡ refused n p
unfolding counted
counts_refused {n = n} {p = p} (refused m q) c =
    let z : ◌≡◌ {A = Result Children Refusal} (Err (refusal n p)) (Err (refusal m q)) = c.answers in
    let e₀ : refusal m q ≡ refusal n p = cc in
    let e₁ : m ≡ n = ap (λ (x : Refusal). x.number) e₀ in
    let e₂ : q ≡ p = ap (λ (x : Refusal). x.place) e₀ in
    rw (e₁, e₂)
counts_refused (read a f) c = absurd (let q = c.answers in differ cc)

module _ (g : Grid) (file codes : List ℕ) (readers : List Target) (shared depth : ℕ) (plan₀ : Plan) (w₀ : List ℕ) (at used parent : ℕ) where
  abbrev step : L.Slot → ℕ → ℕ → Outcome
  step = λ y b v. walk file readers shared g.room depth y b v parent

  abbrev pub whole : Answer Counted
  whole = counted (sequence step plan₀ at used)

  module _ (nest : Nest) where
    -- the values before the stage's next are walked
    pub record Standing (w : List ℕ) (stage : Stage) (next row sum : ℕ) : Type 0 where
      pub plan : Plan
      pub is : StageIs file codes nest stage plan
      pub read_so : Reading g file step plan₀ w₀ at used w plan next row sum stage.next
      pub ahead : used + stage.next ≤ row

    pub standing : NestIs file codes nest plan₀ → Standing w₀ (begin_of nest) at used 0
    standing w = record { plan = plan₀; is = w; read_so = start g file step plan₀ w₀ at used; ahead = omega arith }

    pub standing_begin : {w : List ℕ} {stage : Stage} {next row sum : ℕ} → Begin file w₀ g at used → Standing w stage next row sum → Begin file w g next row
    standing_begin b s = begin_on b s.read_so

    -- a value stands next
    pub record Next (w : List ℕ) (stage : Stage) (next row sum : ℕ) : Type 0 where
      pub x : L.Slot
      pub go : ℕ → Plan
      pub is : SlotIs file codes (slot_at nest stage) x
      pub left : stage.next + 1 < 2 ^ 32 → (first told : ℕ) → Heard file x first told → StageIs file codes nest (after_of file first nest stage) (go told)
      pub read_so : Reading g file step plan₀ w₀ at used w (put x go) next row sum stage.next
      pub ahead : used + stage.next ≤ row

    pub value_next : {w : List ℕ} {stage : Stage} {next row sum : ℕ} → Prelude codes → Standing w stage next row sum → stage.next < stage.count → Next w stage next row sum
    value_next {w} {stage} {next} {row} {sum} p s h =
        let q = goes file codes nest stage s.plan s.is p h in
        record { x = q.x; go = q.go; is = q.is; left = q.left; read_so = subst (λ y. Reading g file step plan₀ w₀ at used w y next row sum stage.next) q.puts s.read_so; ahead = s.ahead }

    -- nothing stands next: all values are walked
    pub nothing_next : {w : List ℕ} {stage : Stage} {next row sum : ℕ} → Standing w stage next row sum → stage.count ≤ stage.next
        → Counts g file w₀ w used whole (Ok (children stage.next (record { used = row; padding = sum; next = next })))
    nothing_next {w} {stage} {next} {row} {sum} s h =
        let r : Reading g file step plan₀ w₀ at used w stop next row sum stage.next = subst (λ y. Reading g file step plan₀ w₀ at used w y next row sum stage.next) (ends file codes nest stage s.plan s.is h) s.read_so in
        let c = ended g file step plan₀ w₀ at used r in
        rw (c.0, c.2) (record { answers = refl; writes = c.1 })

    -- the value is refused
    pub next_lost : {w w' : List ℕ} {stage : Stage} {next row sum n p : ℕ} (v : Next w stage next row sum) → step v.x next row ≡ refused n p → Counts g file w₀ w' used whole (Err (refusal n p))
    next_lost v e = rw (give_up g file step plan₀ w₀ at used v.x v.go v.read_so e) (record { answers = refl; writes = refl })

    -- the value is walked
    pub next_walked : {w w' : List ℕ} {stage : Stage} {next row sum a u p : ℕ} → Small file → Begin file w₀ g at used → (v : Next w stage next row sum) → Got g file w w' row (step v.x next row) a u p
        → Standing w' (after_of file next nest stage) a u (in_word (sum + p)) × (row < u) × (u ≤ g.room)
    next_walked {w' = w'} {stage} {next} {row} {sum} {a} {u} {p} small b v y =
        let t = walk-takes file readers shared g.room small depth v.x next row parent y.taken a y.is in
        let s : row < u = omega (arith, t, y.rows_used) in
        let plan = v.go (told_of y.taken.2) in
        let r : Reading g file step plan₀ w₀ at used w' plan a u (in_word (sum + p)) (stage.next + 1) =
        turn g file step plan₀ w₀ at used v.x v.go v.read_so y (walk_single file readers shared g.room small depth v.x next row parent y.taken a y.is) (walk_bounds file readers shared g.room small depth v.x next row parent y.taken a y.is) in
        let f : u ≤ g.room = r.fits b.rows in
        let k : stage.next + 1 < 2 ^ 32 = omega (arith, s, f, v.ahead, b.few) in
        let z : stage.next + 1 ≡ (stage.next + 1) % 2 ^ 32 = omega (arith, k) in (
          record {
            plan = plan;
            is = v.left k next (told_of y.taken.2) (λ n t. told_is file readers shared g.room small n t depth next row parent y.taken a y.is);
            read_so = subst (λ i. Reading g file step plan₀ w₀ at used w' plan a u (in_word (sum + p)) i) z r;
            ahead = omega (arith, v.ahead, s, z);
          },
          s,
          f,
        )

-- Values one after the other as a plan says, as a loop reads them: what is known after some of them. Assumes nothing.
use Rattle.std.specs.Prelude.{◌≡◌, ℕ, ◌+◌, ◌≤◌, List, [], ◌++◌, length, refl, Err}
use Rattle.std.proofs.Math.Path.{sym, ap}
use Rattle.std.proofs.Common.{◌∙◌, append_assoc, append-nil}
use Rattle.std.proofs.lemmas.List.{map-append}
use native.Mathlib.Omega.{arith}
use Rattle.std.proofs.Math.ListN.{length-append}
use Rattle.laws.specs.Small.{differ}
use Rattle.layout.specs.Tree.{Trees, none, tree, count, told_of}
use Rattle.layout.specs.Slot.{Slot, Plan, stop, put}
use Rattle.answers.specs.declared.Refusal.{Refusal}
use Rattle.answers.specs.Refusals.{refusal}
use Rattle.reading.specs.Answer.{Answer, refused, read, bind}
use Rattle.reading.specs.Drafts.{Draft, bare}
use Rattle.reading.specs.Walk.{Taken, Outcome, sequence, before}
use Rattle.reading.specs.Bounds.{Bounds}
use Rattle.places.specs.Padding.{rows_padding, no_rows, rows_append}
use Rattle.table.specs.declared.Grid.{Grid}
use Rattle.table.specs.Word.{in_word, word_sum}
use Rattle.walked.specs.declared.Reached.{Reached}
use Rattle.walked.specs.Written.{written, written_none, written-append, length-written}
use Rattle.walked.specs.Contract.{Walk, seen, reaching, padded, Walked}

-- what a caller knows of values that were read
pub record Got (g : Grid) (file entry exit : List ℕ) (used : ℕ) (o : Outcome) (next u p : ℕ) : Type 0 where
  pub taken : Taken
  pub is : o ≡ read taken next
  pub rows_used : taken.0 ≡ u
  pub pads : padded file taken.1 ≡ p
  pub words : exit ≡ written g entry used taken.1

got_of : (g : Grid) (file : List ℕ) (o : Outcome) {entry exit : List ℕ} {used next u p : ℕ} → Walked g file entry exit used (seen o) (reaching u p next) → Got g file entry exit used o next u p
unfolding seen
got_of g file (refused n q) {next = next} {u = u} {p = p} m =
    let a : reaching u p next ≡ Err (refusal n q) = m.answers in
    differ cc
got_of g file (read a e) {next = next} {u = u} {p = p} m =
    let q : reaching u p next ≡ reaching a.0 (padded file a.1) e = m.answers in
    let z : ◌≡◌ {A = Reached} (record { used = u; padding = p; next = next }) (record { used = a.0; padding = padded file a.1; next = e }) = cc in
    let e₁ : e ≡ next = sym (ap (λ (r : Reached). r.next) z) in
    let e₂ : a.0 ≡ u = sym (ap (λ (r : Reached). r.used) z) in
    let e₃ : padded file a.1 ≡ p = sym (ap (λ (r : Reached). r.padding) z) in
    record { taken = a; is = rw e₁; rows_used = e₂; pads = e₃; words = m.writes }

pub got : {g : Grid} {file : List ℕ} {o : Outcome} {entry exit : List ℕ} {used : ℕ} {r : Walk} {next u p : ℕ} → Walked g file entry exit used (seen o) r → r ≡ reaching u p next → Got g file entry exit used o next u p
got {g = g} {file = file} {o = o} m e = got_of g file o (record { answers = sym e ∙ m.answers; writes = m.writes })

lost_of : (g : Grid) (file : List ℕ) (o : Outcome) {entry exit : List ℕ} {used n p : ℕ} → Walked g file entry exit used (seen o) (Err (refusal n p)) → o ≡ refused n p
unfolding seen
lost_of g file (refused m q) {n = n} {p = p} h =
    let a : ◌≡◌ {A = Walk} (Err (refusal n p)) (Err (refusal m q)) = h.answers in
    let z : refusal n p ≡ refusal m q = cc in
    let e₁ : m ≡ n = sym (ap (λ (r : Refusal). r.number) z) in
    let e₂ : q ≡ p = sym (ap (λ (r : Refusal). r.place) z) in
    rw (e₁, e₂)
lost_of g file (read a e) {n = n} {p = p} h =
    let q : Err (refusal n p) ≡ reaching a.0 (padded file a.1) e = h.answers in
    differ cc

pub lost : {g : Grid} {file : List ℕ} {o : Outcome} {entry exit : List ℕ} {used : ℕ} {r : Walk} {n p : ℕ} → Walked g file entry exit used (seen o) r → r ≡ Err (refusal n p) → o ≡ refused n p
lost {g = g} {file = file} {o = o} m e = lost_of g file o (record { answers = sym e ∙ m.answers; writes = m.writes })

-- a refusal, whatever the words hold
pub refusing : {g : Grid} {file : List ℕ} {o : Outcome} {entry exit : List ℕ} {used n p : ℕ} → o ≡ refused n p → Walked g file entry exit used (seen o) (Err (refusal n p))
unfolding seen
refusing e = rw e (record { answers = refl; writes = refl })

-- values that were read
pub reading : {g : Grid} {file : List ℕ} {o : Outcome} {entry exit : List ℕ} {used : ℕ} (a : Taken) {next u p : ℕ} → o ≡ read a next → u ≡ a.0 → p ≡ padded file a.1 → exit ≡ written g entry used a.1
    → Walked g file entry exit used (seen o) (reaching u p next)
unfolding seen
reading a e c s w = rw (e, c, s) (record { answers = refl; writes = w })

-- what a program has of values below another: the rows used, the new rows and how many values there are
abbrev pub Counted : Type 0
Counted = ℕ × List Draft × ℕ

unfoldable pub counted : Outcome → Answer Counted
counted (refused n p) = refused n p
counted (read a e) = read (a.0, a.1, count a.2) e

-- rows and a number of values before what follows
abbrev pub prefixed : List Draft → ℕ → Answer Counted → Answer Counted
prefixed rows k (refused n p) = refused n p
prefixed rows k (read a e) = read (a.0, rows ++ a.1, k + a.2) e

prefixed-none : (o : Answer Counted) → prefixed [] 0 o ≡ o
prefixed-none (refused n p) = refl
prefixed-none (read a e) = let z : 0 + a.2 ≡ a.2 = omega arith in ap (λ (k : ℕ). read (a.0, a.1, k) e) z

prefixed-more : (rows more : List Draft) (i : ℕ) (o : Answer Counted) → prefixed rows i (prefixed more 1 o) ≡ prefixed (rows ++ more) (i + 1) o
prefixed-more rows more i (refused n p) = refl
prefixed-more rows more i (read a e) = let z : i + (1 + a.2) ≡ i + 1 + a.2 = omega arith in rw (append_assoc rows more a.1, z)

count_before : (t rest : Trees) → count t ≡ 1 → count (before t rest) ≡ 1 + count rest
unfolding count before
count_before none rest e = absurd (omega arith)
count_before (tree k i own cs x) rest e = omega arith

rest-counted : (a : Taken) → count a.2 ≡ 1 → (o : Outcome) → counted (bind o (λ b n. read (b.0, a.1 ++ b.1, before a.2 b.2) n)) ≡ prefixed a.1 1 (counted o)
unfolding counted bind
rest-counted a h (refused n p) = refl
rest-counted a h (read b n) = rw (count_before a.2 b.2 h)

-- what was counted is what was seen
pub counted-read : (o : Outcome) {u i e : ℕ} {rows : List Draft} → counted o ≡ read (u, rows, i) e → (a : Taken) × (o ≡ read a e) × (a.0 ≡ u) × (a.1 ≡ rows) × (count a.2 ≡ i)
unfolding counted
counted-read (refused n p) q = differ cc
counted-read (read a f) {u = u} {i = i} {e = e} {rows = rows} q =
    let z : f ≡ e = cc in
    let t : ◌≡◌ {A = Counted} (a.0, a.1, count a.2) (u, rows, i) = cc in
    (a, rw z, ap (λ (x : Counted). x.0) t, ap (λ (x : Counted). x.1) t, ap (λ (x : Counted). x.2) t)

pub counted-refused : (o : Outcome) {n p : ℕ} → counted o ≡ refused n p → o ≡ refused n p
unfolding counted
counted-refused (refused n p) q = cc
counted-refused (read a f) q = differ cc

module _ (g : Grid) (file : List ℕ) (step : Slot → ℕ → ℕ → Outcome) (plan₀ : Plan) (w₀ : List ℕ) (at used : ℕ) where
  -- i values are read, with their rows, whose padding is `sum`; `plan` is what is left
  pub record Reading (w : List ℕ) (plan : Plan) (next row sum i : ℕ) : Type 0 where
    pub rows : List Draft
    pub whole : prefixed rows i (counted (sequence step plan next row)) ≡ counted (sequence step plan₀ at used)
    pub counts : row ≡ used + length rows
    pub words : w ≡ written g w₀ used rows
    pub pads : sum ≡ padded file rows
    pub ahead : at ≤ next
    pub inside : at ≤ length file → next ≤ length file
    pub fits : used ≤ g.room → row ≤ g.room

  -- the padding of no rows, and of rows and more behind them
  none-padded : 0 ≡ padded file []
  unfolding in_word
  none-padded = sym (ap in_word (no_rows file))

  more_padded : (rows more : List Draft) → in_word (padded file rows + padded file more) ≡ padded file (rows ++ more)
  more_padded rows more =
      word_sum (rows_padding file (bare rows)) (rows_padding file (bare more)) ∙ ap in_word (sym (rows_append file (bare rows) (bare more)) ∙ ap (rows_padding file) (sym (map-append _ rows more)))

  pub start : Reading w₀ plan₀ at used 0 0
  start = record {
    rows = [];
    whole = prefixed-none (counted (sequence step plan₀ at used));
    counts = omega arith;
    words = sym (written_none g w₀ used);
    pads = none-padded;
    ahead = omega arith;
    inside = λ h. h;
    fits = λ h. h;
  }

  pub same : {w : List ℕ} {plan : Plan} {next row sum i : ℕ} → Reading w plan next row sum i → length w ≡ length w₀
  same r = rw r.words (length-written g w₀ used r.rows)

  -- one value: what is left goes by the number that it tells
  pub turn : {w w' : List ℕ} {next row sum i : ℕ} (x : Slot) (go : ℕ → Plan) {a u p : ℕ} → Reading w (put x go) next row sum i
      → (y : Got g file w w' row (step x next row) a u p) → count y.taken.2 ≡ 1 → Bounds file g.room next row y.taken a
      → Reading w' (go (told_of y.taken.2)) a u (in_word (sum + p)) (i + 1)
  unfolding sequence bind
  turn {w} {w'} {next} {row} {sum} {i} x go {a} {u} {p} r y h b =
      let t = y.taken in
      let more : List Draft = t.1 in
      let plan = go (told_of t.2) in
      let rest : Answer Counted = counted (sequence step plan a t.0) in
      let one : counted (sequence step (put x go) next row) ≡ prefixed more 1 rest = rw y.is (rest-counted t h (sequence step plan a t.0)) in
      let k : row ≡ used + length r.rows = r.counts in
      let c : t.0 ≡ row + length more = b.counted in
      let q : t.0 ≡ u = y.rows_used in
      let l : length (r.rows ++ more) ≡ length r.rows + length more = length-append r.rows more in
      record {
        rows = r.rows ++ more;
        whole = rw (← q) (sym (prefixed-more r.rows more i rest) ∙ ap (prefixed r.rows i) (sym one) ∙ r.whole);
        counts = omega arith;
        words = y.words ∙ rw (r.words, k) (written-append g w₀ used r.rows more);
        pads = rw (r.pads, ← y.pads) (more_padded r.rows more);
        ahead = omega (arith, b.ahead, r.ahead);
        inside = λ p. b.inside (r.inside p);
        fits = λ p. rw (← q) (b.fits (r.fits p));
      }

  -- nothing is left: the rows stand in the words, with their padding, and there are i values
  pub ended : {w : List ℕ} {next row sum i : ℕ} → (r : Reading w stop next row sum i)
      → (counted (sequence step plan₀ at used) ≡ read (row, r.rows, i) next) × (w ≡ written g w₀ used r.rows) × (sum ≡ padded file r.rows)
  unfolding sequence counted count
  ended {w} {next} {row} {sum} {i} r =
      let z : i + 0 ≡ i = omega arith in
      (sym r.whole ∙ rw (append-nil r.rows, z), r.words, r.pads)

  pub give_up : {w : List ℕ} {next row sum i : ℕ} (x : Slot) (go : ℕ → Plan) {n p : ℕ} → Reading w (put x go) next row sum i
      → step x next row ≡ refused n p → counted (sequence step plan₀ at used) ≡ refused n p
  unfolding sequence bind counted
  give_up {w} {next} {row} {sum} {i} x go {n} {p} r b =
      let one : counted (sequence step (put x go) next row) ≡ refused n p = rw b in
      sym r.whole ∙ ap (prefixed r.rows i) one

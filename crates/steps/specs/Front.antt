-- The first objects of a list, which were taken at once, are walked, and with what follows them the whole list. Assumes nothing.
use Rattle.std.specs.Prelude.{◌≡◌, ◌⊎◌, get_or, drop, replicate, Result, Ok, Err, Some}
use Rattle.std.proofs.Math.Path.{refl, ap, subst}
use Rattle.std.proofs.Common.{sym, ◌∙◌, arith, add-one, drop_of_length-le, drop-cons}
use mathlib.Core.List.{List, ◌++◌, map-append}
use Rattle.std.proofs.Math.Logic.{inl, inr}
use Prim.Native.Nat.{ℕ, zero, suc, ◌+◌, ◌-◌, ◌≤◌, ◌<◌}
use Rattle.std.proofs.Math.ListN.{length-replicate, get_or-replicate}
use borrow.Author.Tests.{lt-leb, ne_eqb}
use Rattle.answers.specs.Refusals.{refusal}
use Rattle.answers.specs.declared.Refusal.{Refusal}
use Rattle.laws.specs.Small.{differ}
use Rattle.layout.specs.Target.{Target, kind_of}
use Rattle.layout.specs.Slot as L
use Rattle.layout.specs.Slot.{Plan, stop, put, each, raw}
use Rattle.layout.specs.Tree.{count}
use Rattle.reading.specs.Answer.{Answer, refused, read}
use Rattle.reading.specs.Reads.{Small}
use Rattle.reading.specs.Drafts.{Draft, nothing, bare}
use Rattle.reading.specs.Walk.{Outcome, sequence, walk}
use Rattle.reading.proofs.Bounds.{walk_bounds, walk_single}
use Rattle.places.specs.Places.{count_places}
use Rattle.places.specs.Padding.{padding, id_pad, pad_few, rows_padding, rows_append}
use Rattle.table.specs.declared.Grid.{Grid}
use Rattle.table.specs.Word.{in_word, in_word_lem, word_sum}
use Rattle.table.specs.Put.{put_row}
use Rattle.walked.specs.declared.Reached.{Reached}
use Rattle.walked.specs.Contract.{seen, reaching, padded, Free, Walked}
use Rattle.walked.specs.Leaf.{value_row, leaf_walked}
use Rattle.walked.specs.Loop.{Counted, counted, counted-read, prefixed, Got, got, Reading, start, turn, ended}
use Rattle.walked.specs.Written.{written, written-append}
use Rattle.leaves.specs.Plain.{Begin, head_of}
use Rattle.leaves.specs.Run.{begin_on}
use Rattle.readers.specs.declared.Readers.{Readers}
use Rattle.readers.specs.Listed.{Listed}
use Rattle.heads.specs.declared.slot.Slot.TheVariants.{Object, Raw}
use Rattle.heads.specs.declared.nest.Nest.TheVariants.{Each}
use Rattle.heads.specs.declared.nest.Below.TheVariants.{Nothing}
use Rattle.heads.specs.Placed.{SlotIs}
use Rattle.heads.specs.Slots.{row_kind_lem}
use Rattle.heads.specs.Plans.{NestIs}
use Rattle.heads.specs.Nests.{begins}
use Rattle.heads.specs.Pads.{open_pads}
use Rattle.heads.specs.Meaning.{opens_as}
use Rattle.objects.specs.Beginnings.{Has, position_at}
use Rattle.objects.specs.Meaning.{starts_as}
use Rattle.objects.specs.Close.{slots-counted}
use Rattle.nullables.specs.Walked.{ListWalks}
use Rattle.first_values.specs.declared.Seen.{Seen}
use Rattle.first_values.specs.Looks.{NullSeen, LeafSeen, Looked}
use Rattle.first_values.specs.Took.{Took}
use Rattle.steps.specs.declared.Children.{Children}
use Rattle.steps.specs.Known.{Ready}
use Rattle.steps.specs.Turns.{Counts, children, children_of, whole}
use Rattle.steps.specs.Walks.{OpenedAs, opened_as}
use Rattle.steps.specs.Steps.{no_rule, null_pads, head-ends, got_as}

-- nullables that were walked at once
pub list_nullables : (g : Grid) (file codes : List ℕ) (readers : List Target) (small : Small file) (shared a n : ℕ) (plan : Plan) (i : NestIs file codes (Each (Raw a) n) plan) (at used depth : ℕ) (entry exit : List ℕ) (r : Reached)
    → Begin file entry g at used → ListWalks g file codes a n at used depth entry exit (Some r) → Counts g file entry exit used (whole g file codes readers shared depth plan entry at used used) (Ok (children n r))
unfolding seen counted
list_nullables g file codes readers small shared a n plan i at used depth entry exit r b l =
    let q = i.are.is in
    let p : plan ≡ each (replicate n (raw q.type)) = i.left ∙ ap each (i.are.are ∙ ap (replicate n) q.is) in
    rw p (go (sequence step (each (replicate n (raw q.type))) at used) refl (l readers shared q.type b q.stands)) where
      step : L.Slot → ℕ → ℕ → Outcome
      step = λ y v u. walk file readers shared g.room depth y v u used

      go : (o : Outcome) → sequence step (each (replicate n (raw i.are.is.type))) at used ≡ o → Walked g file entry exit used (seen o) (Ok r) → Counts g file entry exit used (counted o) (Ok (children n r))
      go (refused m p) e w = let z = w.answers in differ cc
      go (read v f) e w =
          let s : count v.2 ≡ n = (slots-counted g file small readers shared depth (replicate n (raw i.are.is.type)) at used used v f e).0 ∙ length-replicate n (raw i.are.is.type) in
          let y : ◌≡◌ {A = Result Reached Refusal} (Ok r) (Ok (record { used = v.0; padding = padded file v.1; next = f })) = w.answers in
          let z : ◌≡◌ {A = Reached} r (record { used = v.0; padding = padded file v.1; next = f }) = cc in
          rw (s, z) (record { answers = refl; writes = w.writes })

-- so many of n objects may be taken: none, or up to all where depth is left
abbrev pub Takeable : (n depth most : ℕ) → Type 0
Takeable n depth most = (most ≤ n) × ((most ≡ 0) ⊎ (depth ≡ 0 → ⊥))

id_few : (file : List ℕ) → Small file → (first id : ℕ) → id_pad file first id ≤ 4
unfolding id_pad
id_few file small first zero = omega arith
id_few file small first (suc i) = pad_few file small first

module _ (g : Grid) (file codes : List ℕ) (rd : Readers) (readers : List Target) (l : Listed file codes rd readers) (small : Small file)
    (shared d declared : ℕ) (x : L.Slot) (is : SlotIs file codes (Object declared) x) (parent : ℕ) where
  -- the row of an object that was seen
  abbrev row_put : (w : List ℕ) (row at : ℕ) → Seen → List ℕ
  row_put w row at s = put_row g w row (value_row (head_of row at parent s.id s.padding) s.kind 0 1 s.end)

  module _ (w : List ℕ) (row at : ℕ) (b : Begin file w g at row) (free : row < g.room) (s : Seen) where
    abbrev target : ℕ
    target = get_or rd.targets (position_at file at) 0

    abbrev GotSeen : Type 0
    GotSeen = Got g file w (row_put w row at s) row (walk file readers shared g.room (suc d) x at row parent) s.end (row + 1) s.padding

    has : Has rd rd.count (position_at file at) target
    has = record { counts = refl; at = refl }

    fits : in_word (row + 1) ≡ row + 1
    fits = in_word_lem (row + 1) (omega (arith, free, b.few))

    roomy : Free g w row
    roomy = record { long = b.long; there = free; few = omega (arith, free, b.few) }

    null_got : NullSeen file codes rd.count target declared at s → GotSeen
    unfolding seen
    null_got v =
        let a = starts_as file codes rd.count target rd readers l small g.room (Object declared) at row (suc d) x has is b.place in
        let y = rw (ne_eqb (suc d) 0 (λ e. omega (arith, e)), lt-leb g.room row free, v.starts) at a in
        let h = head_of row at parent 0 s.padding in
        let z = leaf_walked {A = ℕ} g file w h 0 nothing (read 0 s.end) roomy (y.ahead, omega (arith, y.inside, b.short)) (null_pads file small row at parent y.pads) in
        got (rw (y.is shared parent, v.kind_is, v.id_is) z) (ap (λ (u : ℕ). reaching u s.padding s.end) fits)

    leaf_got : LeafSeen file codes rd.count target declared at s → GotSeen
    leaf_got v =
        let a = starts_as file codes rd.count target rd readers l small g.room (Object declared) at row (suc d) x has is b.place in
        let y = rw (ne_eqb (suc d) 0 (λ e. omega (arith, e)), lt-leb g.room row free, v.starts) at a in
        let t = y.type in
        let k : s.kind ≡ kind_of t = v.kind_is ∙ row_kind_lem y.stands in
        let h = head_of row at parent s.id s.padding in
        let ready : Ready file w g h v.from = record { long = b.long; few = b.few; free = free; begun = y.ahead; place = y.inside; short = b.short; ided = y.ided } in
        let p = open_pads file codes v.place v.from v.opens ∙ ap (λ n. padding file (count_places file n v.from)) (row_kind_lem y.stands) in
        let o : OpenedAs file codes t v.from s.end (Nothing 0) = opened_as file codes t v.from (opens_as file codes v.place v.from t y.stands) v.opens p in
        let rule = no_rule file codes v.place v.from s.kind (Nothing 0) v.kind_is v.opens in
        let z = head-ends g file h v.from t readers shared d (λ q. rule (k ∙ q)) small ready y.stands.lawful o s.kind k in
        let f : s.padding ≤ 4 = omega (arith, y.ided.pads, id_few file small at s.id) in
        let e : in_word (s.padding + 0) ≡ s.padding = in_word_lem (s.padding + 0) (omega (arith, f)) ∙ omega arith in
        got_as (got (rw (y.is shared d parent refl) z) (ap (λ (u : ℕ). reaching u (in_word (s.padding + 0)) s.end) fits)) refl refl refl (sym e)

    -- an object that was seen is walked
    seen_got : Looked file codes rd.count target declared at (Some s) → GotSeen
    seen_got (inl v) = null_got v
    seen_got (inr v) = leaf_got v

rest-slots : {A : Type 0} (x : A) (n k : ℕ) → drop k (replicate n x) ≡ replicate (n - k) x
rest-slots x n zero = let z : n ≡ n - 0 = omega arith in ap (λ (m : ℕ). replicate m x) z
rest-slots x zero (suc k) = let z : 0 ≡ 0 - suc k = omega arith in ap (λ (m : ℕ). replicate m x) z
rest-slots x (suc n) (suc k) = let z : n - k ≡ suc n - suc k = omega arith in rest-slots x n k ∙ ap (λ (m : ℕ). replicate m x) z

-- the rows of objects that were taken have the room
pub took_fits : (g : Grid) (file codes targets : List ℕ) (count declared used : ℕ) (w₀ : List ℕ) (at k next sum : ℕ) (w : List ℕ) → used ≤ g.room
    → Took g file codes targets count declared used w₀ at k next sum w → used + k ≤ g.room
unfolding Took
took_fits g file codes targets count declared used w₀ at zero next sum w h t = omega (arith, h)
took_fits g file codes targets count declared used w₀ at (suc k) next sum w h t = omega (arith, t.free)

module _ (g : Grid) (file codes : List ℕ) (rd : Readers) (readers : List Target) (l : Listed file codes rd readers) (small : Small file) (shared declared : ℕ) (x : L.Slot)
    (is : SlotIs file codes (Object declared) x) (w₀ : List ℕ) (at used : ℕ) (b : Begin file w₀ g at used) (n : ℕ) where
  abbrev slots : List L.Slot
  slots = replicate n x

  next_is : (k : ℕ) → k < n → each (drop k slots) ≡ put x (λ m. each (drop (suc k) slots))
  unfolding each
  next_is k h = rw (drop-cons slots k x (omega (arith, h, length-replicate n x)), get_or-replicate n k x x h)

  module _ (depth : ℕ) where
    abbrev one : L.Slot → ℕ → ℕ → Outcome
    one = λ y a v. walk file readers shared g.room depth y a v used

    abbrev Taking : (k next sum : ℕ) (w : List ℕ) → Type 0
    Taking k next sum w = Reading g file one (each slots) w₀ at used w (each (drop k slots)) next (used + k) sum k

    none_taken : {next sum : ℕ} {w : List ℕ} → next ≡ at → sum ≡ 0 → w ≡ w₀ → Taking 0 next sum w
    none_taken p q r =
        let z : used + 0 ≡ used = omega arith in
        rw (z, p, q, r) (start g file one (each slots) w₀ at used)

  -- k objects that were taken are walked
  took_reading : (d k next sum : ℕ) (w : List ℕ) → k ≤ n
      → Took g file codes rd.targets rd.count declared used w₀ at k next sum w → Taking (suc d) k next sum w
  unfolding Took
  took_reading d zero next sum w h t = none_taken (suc d) t.0 t.1 t.2
  took_reading d (suc k) next sum w h t =
      let r = took_reading d k t.first t.had t.old (omega (arith, h)) t.before in
      let r' : Reading g file (one (suc d)) (each slots) w₀ at used t.old (put x (λ m. each (drop (suc k) slots))) t.first (used + k) t.had k =
      subst (λ y. Reading g file (one (suc d)) (each slots) w₀ at used t.old y t.first (used + k) t.had k) (next_is k (omega (arith, h))) r in
      let y = seen_got g file codes rd readers l small shared d declared x is used t.old (used + k) t.first (begin_on b r) t.free t.seen t.looked in
      let row : ℕ → List ℕ = λ e. put_row g t.old (used + k) (value_row (head_of (used + k) t.first used t.seen.id t.seen.padding) t.seen.kind 0 1 e) in
      let y' : Got g file t.old w (used + k) (one (suc d) x t.first (used + k)) next (used + suc k) t.seen.padding = got_as y (t.puts ∙ ap row (sym t.ends)) (sym t.ends) (omega arith) refl in
      let single = walk_single file readers shared g.room small (suc d) x t.first (used + k) used y'.taken next y'.is in
      let bounds = walk_bounds file readers shared g.room small (suc d) x t.first (used + k) used y'.taken next y'.is in
      let q = turn g file (one (suc d)) (each slots) w₀ at used x (λ m. each (drop (suc k) slots)) r' y' single bounds in
      subst (λ (i : ℕ). Reading g file (one (suc d)) (each slots) w₀ at used w (each (drop (suc k) slots)) next (used + suc k) sum i) (add-one k)
      (subst (λ (m : ℕ). Reading g file (one (suc d)) (each slots) w₀ at used w (each (drop (suc k) slots)) next (used + suc k) m (k + 1)) (sym t.sums) q)

  -- so many as may be taken
  front_reading : (depth most k next sum : ℕ) (w : List ℕ) → Takeable n depth most → k ≤ most
      → Took g file codes rd.targets rd.count declared used w₀ at k next sum w → Taking depth k next sum w
  unfolding Took
  front_reading depth most zero next sum w m h t = none_taken depth t.0 t.1 t.2
  front_reading depth most (suc k) next sum w (m, inl z) h t = absurd (omega (arith, z, h))
  front_reading zero most (suc k) next sum w (m, inr o) h t = absurd (o refl)
  front_reading (suc d) most (suc k) next sum w (m, inr o) h t = took_reading d (suc k) next sum w (omega (arith, m, h)) t

  module _ (depth : ℕ) {k next sum : ℕ} {w : List ℕ} (r : Taking depth k next sum w) where
    abbrev outcome : Outcome
    outcome = sequence (one depth) (each slots) at used

    -- all were taken
    front_all : k ≤ n → n ≤ k → Counts g file w₀ w used (counted outcome) (Ok (children k (record { used = used + k; padding = sum; next = next })))
    unfolding each
    front_all p q =
        let e : each (drop k slots) ≡ stop = ap each (drop_of_length-le slots {i = k} (omega (arith, q, length-replicate n x))) in
        let c = ended g file (one depth) (each slots) w₀ at used (subst (λ y. Reading g file (one depth) (each slots) w₀ at used w y next (used + k) sum k) e r) in
        rw (c.0, c.2) (record { answers = refl; writes = c.1 })

    -- those that are left begin where the first ones end
    front_begin : Begin file w g next (used + k)
    front_begin = begin_on b r

    front_left : NestIs file codes (Each (Object declared) (n - k)) (each (replicate (n - k) x))
    front_left = begins file codes (Each (Object declared) (n - k)) (replicate (n - k) x) (record { slot = x; are = refl; is = is })

    abbrev left : Answer Counted
    left = counted (sequence (one depth) (each (replicate (n - k) x)) next (used + k))

    joined : prefixed r.rows k left ≡ counted outcome
    joined = subst (λ y. prefixed r.rows k (counted (sequence (one depth) (each y) next (used + k))) ≡ counted outcome) (rest-slots x n k) r.whole

    -- one of those that are left is refused
    front_refused : {w' : List ℕ} {y : Refusal} → Counts g file w w' (used + k) left (Err y) → Counts g file w₀ w' used (counted outcome) (Err y)
    front_refused {w'} {y} c = go left refl c.answers where
      go : (o : Answer Counted) → left ≡ o → Err y ≡ children_of file o → Counts g file w₀ w' used (counted outcome) (Err y)
      go (refused i q) e a =
          let z : y ≡ refusal i q = cc in
          rw (sym joined ∙ ap (prefixed r.rows k) e, z) (record { answers = refl; writes = refl })
      go (read v f) e a = differ cc

    more_padded : (rows more : List Draft) → in_word (padded file rows + padded file more) ≡ padded file (rows ++ more)
    more_padded rows more =
        word_sum (rows_padding file (bare rows)) (rows_padding file (bare more)) ∙ ap in_word (sym (rows_append file (bare rows) (bare more)) ∙ ap (rows_padding file) (sym (map-append _ rows more)))

    -- all that are left are walked
    front_done : {w' : List ℕ} {i : ℕ} {t : Reached} → Counts g file w w' (used + k) left (Ok (children i t))
        → Counts g file w₀ w' used (counted outcome) (Ok (children n (record { used = t.used; padding = in_word (sum + t.padding); next = t.next })))
    front_done {w'} {i} {t} c = go left refl c where
      go : (o : Answer Counted) → left ≡ o → Counts g file w w' (used + k) o (Ok (children i t))
          → Counts g file w₀ w' used (counted outcome) (Ok (children n (record { used = t.used; padding = in_word (sum + t.padding); next = t.next })))
      go (refused m p) e a = let q = a.answers in differ cc
      go (read v f) e a =
          let q : ◌≡◌ {A = Result Children Refusal} (Ok (children i t)) (Ok (children v.2 (record { used = v.0; padding = padded file v.1; next = f }))) = a.answers in
          let c : children i t ≡ children v.2 (record { used = v.0; padding = padded file v.1; next = f }) = cc in
          let z : ◌≡◌ {A = Reached} t (record { used = v.0; padding = padded file v.1; next = f }) = ap (λ (x : Children). x.reached) c in
          let h : counted outcome ≡ read (v.0, r.rows ++ v.1, k + v.2) f = sym joined ∙ ap (prefixed r.rows k) e in
          let y = counted-read outcome h in
          let s : k + v.2 ≡ n = sym y.4 ∙ (slots-counted g file small readers shared depth slots at used used y.0 f y.1).0 ∙ length-replicate n x in
          let p : in_word (sum + padded file v.1) ≡ padded file (r.rows ++ v.1) = rw r.pads (more_padded r.rows v.1) in
          let u : w' ≡ written g w₀ used (r.rows ++ v.1) = a.writes ∙ rw (r.words, r.counts) (written-append g w₀ used r.rows v.1) in
          rw (h, z, s, p) (record { answers = refl; writes = u })

-- a list of n objects, of which k were taken at once
module _ (g : Grid) (file codes : List ℕ) (rd : Readers) (readers : List Target) (l : Listed file codes rd readers) (small : Small file) (shared declared n : ℕ) (plan : Plan)
    (i : NestIs file codes (Each (Object declared) n) plan) (w₀ : List ℕ) (at used : ℕ) (b : Begin file w₀ g at used) (depth most k next sum : ℕ) (w : List ℕ)
    (m : Takeable n depth most) (h : k ≤ most) (t : Took g file codes rd.targets rd.count declared used w₀ at k next sum w) where
  abbrev x : L.Slot
  x = i.are.slot

  planned : plan ≡ each (replicate n x)
  planned = i.left ∙ ap each i.are.are

  reads : Taking g file codes rd readers l small shared declared x i.are.is w₀ at used b n depth k next sum w
  reads = front_reading g file codes rd readers l small shared declared x i.are.is w₀ at used b n depth most k next sum w m h t

  -- what is left of it
  abbrev pub left_plan : Plan
  left_plan = each (replicate (n - k) i.are.slot)

  pub list_left : NestIs file codes (Each (Object declared) (n - k)) left_plan
  list_left = front_left g file codes rd readers l small shared declared x i.are.is w₀ at used b n depth reads

  pub list_begin : Begin file w g next (used + k)
  list_begin = front_begin g file codes rd readers l small shared declared x i.are.is w₀ at used b n depth reads

  pub list_all : n ≤ k → Counts g file w₀ w used (whole g file codes readers shared depth plan w₀ at used used) (Ok (children k (record { used = used + k; padding = sum; next = next })))
  list_all q = rw planned (front_all g file codes rd readers l small shared declared x i.are.is w₀ at used b n depth reads (omega (arith, h, m.0)) q)

  pub list-refused : {w' : List ℕ} {y : Refusal} → Counts g file w w' (used + k) (whole g file codes readers shared depth left_plan w next (used + k) used) (Err y)
      → Counts g file w₀ w' used (whole g file codes readers shared depth plan w₀ at used used) (Err y)
  list-refused c = rw planned (front_refused g file codes rd readers l small shared declared x i.are.is w₀ at used b n depth reads c)

  pub list_done : {w' : List ℕ} {number : ℕ} {r : Reached} → Counts g file w w' (used + k) (whole g file codes readers shared depth left_plan w next (used + k) used) (Ok (children number r))
      → Counts g file w₀ w' used (whole g file codes readers shared depth plan w₀ at used used) (Ok (children n (record { used = r.used; padding = in_word (sum + r.padding); next = r.next })))
  list_done c = rw planned (front_done g file codes rd readers l small shared declared x i.are.is w₀ at used b n depth reads c)

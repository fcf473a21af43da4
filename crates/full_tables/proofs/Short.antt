-- Reading a file with less room than it needs answers 19 at the first byte of the first row that has none. Assumes nothing.
use mathlib.Core.Path.{◌≡◌, refl, sym, ap, ◌∙◌}
use mathlib.Core.Bool.{Bool, true, false}
use mathlib.Core.List.{List, [], ◌∷◌, ◌++◌}
use mathlib.Core.Logic.{◌⊎◌, inl, inr}
use Prim.Native.Nat.{ℕ, zero, suc, ◌+◌, ◌-◌, ◌<◌, ◌≤◌}
use native.Mathlib.Omega.{arith}
use lib.Dec.{ltb, leb}
use lib.ListN.{length, length-append}
use borrow.Author.Tests.{ltb-true, ltb-false, lt-ltb, leb-true, leb-false}
use Rattle.laws.specs.Small.{differ}
use Rattle.layout.specs.Target.{Target, kind_of}
use Rattle.layout.specs.Tree.{Trees, none, tree, count, told_of}
use Rattle.layout.specs.Rows.{row}
use Rattle.layout.specs.Slot.{Slot, raw, object, reference, leaf, Plan, stop, put}
use Rattle.layout.specs.File.{objects_plan}
use Rattle.reading.specs.Answer.{Answer, refused, read, bind, check}
use Rattle.reading.specs.Seven.{seven_at}
use Rattle.reading.specs.Rules.{Found, missing, found, reader, serves}
use Rattle.reading.specs.Heads.{head_at, leaf_at}
use Rattle.reading.specs.Font.{font_ok}
use Rattle.reading.specs.Drafts.{Draft, drafted}
use Rattle.reading.specs.Walk.{Taken, Outcome, done, before, point, sequence, raw_at, by_reader, object_at, value_at, walk}
use Rattle.reading.specs.File.{objects_at}

-- the first byte of row i of some
unfoldable pub first_at : List Draft → (i : ℕ) → ℕ
first_at [] i = 0
first_at (d ∷ rows) zero = d.row.first
first_at (d ∷ rows) (suc i) = first_at rows i

first_left : (x y : List Draft) (i : ℕ) → i < length x → first_at (x ++ y) i ≡ first_at x i
unfolding first_at
first_left [] y i h = absurd (omega arith)
first_left (d ∷ x) y zero h = refl
first_left (d ∷ x) y (suc i) h = first_left x y i (omega arith)

first_right : (x y : List Draft) (i : ℕ) → first_at (x ++ y) (length x + i) ≡ first_at y i
unfolding first_at
first_right [] y i = let z : 0 + i ≡ i = omega arith in rw z
first_right (d ∷ x) y i = let z : suc (length x) + i ≡ suc (length x + i) = omega arith in rw z (first_right x y i)

-- ---- what was read

pub read-bind : {A B : Type 0} (x : Answer A) {k : A → ℕ → Answer B} {b : B} {e : ℕ} → bind x k ≡ read b e → (a : A) × (n : ℕ) × (x ≡ read a n) × (k a n ≡ read b e)
unfolding bind
read-bind (refused m q) e = differ cc
read-bind (read a n) e = (a, n, refl, e)

pub read-check : {A : Type 0} (t : Bool) (m q : ℕ) {x : Answer A} {a : A} {e : ℕ} → check t m q x ≡ read a e → (t ≡ true) × (x ≡ read a e)
unfolding check
read-check true m q e = (refl, e)
read-check false m q e = differ cc

-- ---- with less room

-- from row `used` on, what was read with more room is read with so much, where it suffices; else, if at least so many rows had room, 19 at the first byte of the first row that has none
record Cut (least room used : ℕ) (small : Outcome) (a : Taken) (e : ℕ) : Type 0 where
  counts : used + length a.1 ≡ a.0
  fits : a.0 ≤ room → small ≡ read a e
  full : least ≤ room → room < a.0 → small ≡ refused 19 (first_at a.1 (room - used))

same_cut : {least room used : ℕ} {small : Outcome} {a b : Taken} {m n : ℕ} → Cut least room used small a m → ◌≡◌ {A = Outcome} (read a m) (read b n) → Cut least room used small b n
same_cut {a = a} {b = b} {m = m} {n = n} c q =
    let x : a ≡ b = cc in
    let y : m ≡ n = cc in
    rw (x, y) at c

-- whatever was read with more room
record Short (room used : ℕ) (small big : Outcome) : Type 0 where
  got : {a : Taken} {e : ℕ} → big ≡ read a e → Cut used room used small a e

-- of one value, whose own row begins at a byte and has room
record One (room at used : ℕ) (small : Outcome) (a : Taken) (e : ℕ) : Type 0 where
  cut : Cut (suc used) room used small a e
  some : 1 ≤ length a.1
  starts : first_at a.1 0 ≡ at

same_one : {room at used : ℕ} {small : Outcome} {a b : Taken} {m n : ℕ} → One room at used small a m → ◌≡◌ {A = Outcome} (read a m) (read b n) → One room at used small b n
same_one {a = a} {b = b} {m = m} {n = n} c q =
    let x : a ≡ b = cc in
    let y : m ≡ n = cc in
    rw (x, y) at c

record Value (room at used : ℕ) (small big : Outcome) : Type 0 where
  got : {a : Taken} {e : ℕ} → big ≡ read a e → One room at used small a e

module _ (room at used : ℕ) where
  value_bind : {A : Type 0} (y : Answer A) {k l : A → ℕ → Outcome} → ((a : A) (n : ℕ) → Value room at used (k a n) (l a n)) → Value room at used (bind y k) (bind y l)
  unfolding bind
  value_bind (refused n p) f = record { got = λ q. differ cc }
  value_bind (read a n) f = f a n

  value_check : (t : Bool) (m q : ℕ) {x y : Outcome} → Value room at used x y → Value room at used (check t m q x) (check t m q y)
  unfolding check
  value_check true m q v = v
  value_check false m q v = record { got = λ r. differ cc }

  -- a value with none below it
  lone : (d : Draft) (next : ℕ) (t : Trees) → d.row.first ≡ at → Value room at used (done next (suc used) (d ∷ []) t) (done next (suc used) (d ∷ []) t)
  unfolding first_at
  lone d next t e = record {
    got = λ q. same_one (record { cut = record { counts = omega arith; fits = λ h. refl; full = λ h l. absurd (omega arith) }; some = omega arith; starts = e }) q;
  }

module _ (file : List ℕ) (readers : List Target) (shared room room' : ℕ) where
  abbrev Steps : (f g : Slot → ℕ → ℕ → Outcome) → Type 0
  Steps f g = (x : Slot) (at used : ℕ) → Short room used (f x at used) (g x at used)

  module _ (f g : Slot → ℕ → ℕ → Outcome) (s : Steps f g) where
    -- a value, and those behind it
    module _ (x : Slot) (go : ℕ → Plan) (at used : ℕ) where
      abbrev rest : Taken → ℕ → Outcome
      rest a n = bind (sequence f (go (told_of a.2)) n a.0) (λ b m. done m b.0 (a.1 ++ b.1) (before a.2 b.2))

      module _ (a : Taken) (n : ℕ) (b : Taken) (m : ℕ) (c : Cut used room used (f x at used) a n) (d : Cut a.0 room a.0 (sequence f (go (told_of a.2)) n a.0) b m) where
        by_test : (t : Bool) → leb a.0 room ≡ t → used ≤ room → room < b.0 → bind (f x at used) rest ≡ refused 19 (first_at (a.1 ++ b.1) (room - used))
        unfolding bind
        by_test true t h l =
            let k = leb-true a.0 room t in
            let z : room - used ≡ length a.1 + (room - a.0) = omega (arith, c.counts) in
            rw (c.fits k, d.full k l, z, first_right a.1 b.1 (room - a.0))
        by_test false t h l =
            let k = leb-false a.0 room t in
            rw (c.full h k, first_left a.1 b.1 (room - used) (omega (arith, c.counts)))

        both : Cut used room used (bind (f x at used) rest) (b.0, a.1 ++ b.1, before a.2 b.2) m
        unfolding bind
        both = record {
          counts = omega (arith, c.counts, d.counts, length-append a.1 b.1);
          fits = λ h. rw (c.fits (omega (arith, d.counts)), d.fits h);
          full = by_test (leb a.0 room) refl;
        }

    sequence_short : (plan : Plan) (at used : ℕ) → Short room used (sequence f plan at used) (sequence g plan at used)
    unfolding sequence
    sequence_short stop at used = record {
      got = λ q. same_cut (record { counts = omega arith; fits = λ h. refl; full = λ h l. absurd (omega arith) }) q;
    }
    sequence_short (put x go) at used = record {
      got = λ q.
          let r = read-bind (g x at used) q in
          let a = r.0 in
          let n = r.1 in
          let r₂ = read-bind (sequence g (go (told_of a.2)) n a.0) r.3 in
          same_cut (both x go at used a n r₂.0 r₂.1 ((s x at used).got r.2) ((sequence_short (go (told_of a.2)) n a.0).got r₂.2)) r₂.3;
    }

  module _ (f g : Plan → ℕ → ℕ → Outcome) (s : (plan : Plan) (at used : ℕ) → Short room used (f plan at used) (g plan at used)) where
    -- a row, and those below it
    module _ (t : Target) (first at used parent id : ℕ) (own : List ℕ) (plan : Plan) (next : ℕ) where
      abbrev above : Taken → ℕ → Outcome
      above a e =
          check (font_ok point t a.2) 22 at
          (done e a.0 (drafted (row (kind_of t) first (e - first) (count a.2) parent id (a.0 - used)) ∷ a.1) (tree (kind_of t) id own a.2 none))

      row_cut : (a : Taken) (e : ℕ) → font_ok point t a.2 ≡ true → Cut (suc used) room (suc used) (f plan next (suc used)) a e
          → One room first used (bind (f plan next (suc used)) above)
          (a.0, drafted (row (kind_of t) first (e - first) (count a.2) parent id (a.0 - used)) ∷ a.1, tree (kind_of t) id own a.2 none) e
      unfolding bind check first_at
      row_cut a e ok c = record {
        cut = record {
          counts = omega (arith, c.counts);
          fits = λ h. rw (c.fits h, ok);
          full = λ h l. let z : room - used ≡ suc (room - suc used) = omega arith in rw (c.full h l, z);
        };
        some = omega arith;
        starts = refl;
      }

      above_short : Value room first used (bind (f plan next (suc used)) above) (bind (g plan next (suc used)) above)
      above_short = record {
        got = λ q.
            let r = read-bind (g plan next (suc used)) q in
            let c = read-check (font_ok point t r.0.2) 22 at r.3 in
            same_one (row_cut r.0 r.1 c.0 ((s plan next (suc used)).got r.2)) c.1;
      }

    raw_short : (t : Target) (first at used parent id : ℕ)
        → Value room first used (raw_at file readers shared room f t first at used parent id) (raw_at file readers shared room' g t first at used parent id)
    unfolding raw_at
    raw_short t first at used parent id = value_bind room first used (head_at file t at) (λ h next. above_short t first at used parent id h.0 h.1 next)

    by_short : (r : Found) (t : Target) (id at next used parent : ℕ)
        → Value room at used (by_reader file readers shared room r f t id at next used parent) (by_reader file readers shared room' r g t id at next used parent)
    unfolding by_reader
    by_short missing t id at next used parent = record { got = λ q. differ cc }
    by_short (found u) t id at next used parent = value_check room at used (serves t u) 14 at (raw_short u at next used parent id)

    object_short : (t : Target) (id at next used parent : ℕ)
        → Value room at used (object_at file readers shared room f t id at next used parent) (object_at file readers shared room' g t id at next used parent)
    unfolding object_at
    object_short t zero at next used parent = lone room at used _ next _ refl
    object_short t (suc i) at next used parent = by_short (reader readers (suc i)) t (suc i) at next used parent

    value_short : (x : Slot) (at used parent : ℕ) → Value room at used (value_at file readers shared room f x at used parent) (value_at file readers shared room' g x at used parent)
    unfolding value_at
    value_short (raw t) at used parent = raw_short t at at used parent 0
    value_short (object t) at used parent = value_bind room at used (seven_at file at) (λ id next. object_short t id at next used parent)
    value_short (reference wanted) at used parent = value_bind room at used (seven_at file at) (λ id next. value_check room at used (leb id shared) 16 at (lone room at used _ next _ refl))
    value_short (leaf x) at used parent = value_bind room at used (leaf_at file x at) (λ own next. lone room at used _ next _ refl)

  -- where a row is asked for
  row_asked : (at used : ℕ) (small : Outcome) (a : Taken) (e : ℕ) → One room at used small a e → Cut used room used (check (ltb used room) 19 at small) a e
  unfolding check
  row_asked at used small a e o = record {
    counts = o.cut.counts;
    fits = λ h. rw (lt-ltb used room (omega (arith, o.cut.counts, o.some))) (o.cut.fits h);
    full = go (ltb used room) refl;
  } where
    go : (b : Bool) → ltb used room ≡ b → used ≤ room → room < a.0 → check b 19 at small ≡ refused 19 (first_at a.1 (room - used))
    go true t h l = o.cut.full (ltb-true used room t) l
    go false t h l =
        let z : room - used ≡ 0 = omega (arith, ltb-false used room t) in
        rw (z, o.starts)

  walk_short : (d : ℕ) (x : Slot) (at used parent : ℕ) → Short room used (walk file readers shared room d x at used parent) (walk file readers shared room' d x at used parent)
  unfolding walk
  walk_short zero x at used parent = record { got = λ q. differ cc }
  walk_short (suc d) x at used parent = record {
    got = λ {a} {e} q.
        let c = read-check (ltb used room') 19 at q in
        row_asked at used _ a e
        ((value_short _ _ (λ plan b u. sequence_short _ _ (λ y b v. walk_short d y b v (suc used)) plan b u) x at used parent).got c.1);
  }

  pub objects-short : (at : ℕ) {a : Taken} {e : ℕ} → objects_at file room' readers shared at ≡ read a e → room < a.0 → objects_at file room readers shared at ≡ refused 19 (first_at a.1 room)
  unfolding objects_at
  objects-short at {a} {e} q l =
      let z : room - 0 ≡ room = omega arith in
      rw z at (((sequence_short _ _ (λ x a used. walk_short 32 x a used 0) (objects_plan shared) at 0).got q).full (omega arith) l)

  pub objects-count : (at : ℕ) {a : Taken} {e : ℕ} → objects_at file room' readers shared at ≡ read a e → length a.1 ≡ a.0
  unfolding objects_at
  objects-count at {a} {e} q = omega (arith, ((sequence_short _ _ (λ x a used. walk_short 32 x a used 0) (objects_plan shared) at 0).got q).counts)

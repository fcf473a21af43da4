-- What is read stands there: trees laid down in just those bytes, with just those rows. Assumes nothing.
use Rattle.std.specs.Prelude.{◌≡◌, ltb, leb}
use Rattle.std.proofs.Math.Path.{refl, sym, ap}
use Rattle.std.proofs.Common.{◌∙◌, inl}
use mathlib.Core.List.{List, [], ◌∷◌, ◌++◌, append_assoc}
use Rattle.std.proofs.Math.Logic.{inr}
use Prim.Native.Nat.{ℕ, zero, suc, ◌+◌, ◌-◌, ◌≤◌}
use native.Mathlib.Omega.{arith}
use Rattle.std.proofs.Math.ListN.{length, drop, length-append}
use borrow.Author.Tests.{leb-true, ltb-true}
use Rattle.laws.specs.Ok.{ok_weaken}
use Rattle.layout.specs.Number.{Seven}
use Rattle.layout.specs.Target.{Target, kind_of, sprite_font}
use Rattle.layout.specs.Tree.{Trees, none, tree, count, size, depth, children_at, told_of, told}
use Rattle.layout.specs.Slot.{leaf_kind, Slot, raw, object, reference, leaf, Plan, stop, put, each, font_slots}
use Rattle.layout.specs.Head.{Head}
use Rattle.layout.specs.Layout.{Raw, Value, Lays}
use Rattle.layout.specs.Resource.{Within}
use Rattle.layout.specs.Rows.{row, raw_rows, noted_rows, value_rows}
use Rattle.reading.specs.Answer.{Ok, not_read, is_read, ok_bind, ok_check}
use Rattle.reading.specs.Reads.{Small, Spans}
use Rattle.reading.specs.Seven.{seven_reads}
use Rattle.reading.specs.Rules.{Found, missing, found, reader, reader-sound, serves, serves-sound}
use Rattle.reading.specs.Font.{font_ok, font_sound, font_characters, Characters}
use Rattle.reading.specs.Heads.{leaf_reads}
use Rattle.reading.proofs.Heads.{head_reads}
use Rattle.reading.specs.Walk.{Taken, Outcome, done, before, point, point_is, sequence, raw_at, by_reader, object_at, value_at, walk}
use Rattle.reading.specs.Drafts.{Draft, raw_drafts, value_drafts, drafts_of, drafted, wanting}
use Rattle.reading.specs.Sound.{Read, ReadValue, sequence-sound}

-- a font's plan is that of its eight fields
font_plan : (t : Target) (own : List ℕ) (plan : Plan) (bs : List ℕ) → Head t own plan bs → t ≡ sprite_font → plan ≡ each font_slots
unfolding Head
font_plan t own plan bs w e = let f : Head sprite_font own plan bs = rw e at w in f.2

module _ (file : List ℕ) (readers : List Target) (shared room : ℕ) (small : Small file) where
  -- a raw value that was read, whose row begins `before` bytes before it
  record ReadRaw (d : ℕ) (t : Target) (first at used parent id before : ℕ) (a : Taken) (e : ℕ) : Type 0 where
    pub own : List ℕ
    pub children : Trees
    pub bytes : List ℕ
    pub laid : Raw (λ plan b. Lays readers (Within shared) plan children b) t (kind_of t) own children bytes
    pub tree_is : a.2 ≡ tree (kind_of t) id own children none
    pub there : drop at file ≡ bytes ++ drop e file
    pub end : e ≡ at + length bytes
    pub used_is : a.0 ≡ used + suc (size children)
    pub rows_are : a.1 ≡ raw_drafts (λ plan b. Lays readers (Within shared) plan children b)
        (λ plan b v a n p. drafts_of readers (Within shared) plan children b v a n p) t (kind_of t) own children bytes laid first (before + length bytes) at used parent id
    pub deep : depth children ≤ d
    pub room_left : a.0 ≤ room

  module _ (d used : ℕ) (below : Plan → ℕ → ℕ → Outcome)
      (h : (plan : Plan) (at : ℕ) → Ok (Read file readers shared room small d plan at (suc used) (suc used)) (below plan at (suc used))) (free : suc used ≤ room) where
    raw_sound : (t : Target) (first at parent id before : ℕ) → at ≡ first + before
        → Ok (ReadRaw d t first at used parent id before) (raw_at file readers shared room below t first at used parent id)
    unfolding raw_at raw_rows
    raw_sound t first at parent id before q =
        ok_bind ((head_reads file t).sound small at)
        (λ o next hw. ok_bind (h o.1 next)
        (λ a e v. ok_check (font_ok point t a.2) 22 at _
        (λ b. is_read {a = (a.0, drafted (row (kind_of t) first (e - first) (count a.2) parent id (a.0 - used)) ∷ a.1, tree (kind_of t) id o.0 a.2 none)}
        (let hb = hw.0 in
        let cb = v.bytes in
        let g : drop at file ≡ (hb ++ cb) ++ drop e file = hw.2 ∙ ap (λ (l : List ℕ). hb ++ l) v.there ∙ sym (append_assoc hb cb (drop e file)) in
        let l : e ≡ at + length (hb ++ cb) = rw length-append (omega arith) in
        let z : e - first ≡ before + length (hb ++ cb) = omega arith in
        let m : a.0 ≡ used + suc (size a.2) = omega arith in
        let s : a.0 - used ≡ suc (size a.2) = omega arith in
        let c : t ≡ sprite_font → Characters (children_at 3 a.2) = λ f. font_characters readers (Within shared) a.2 cb (rw (font_plan t o.0 o.1 hb hw.1 f) at v.laid) in
        record {
          own = o.0;
          children = a.2;
          bytes = hb ++ cb;
          laid = record {
            kind_of_lem = refl;
            font = font_sound point point_is t a.2 c b;
            plan = o.1;
            head = hb;
            children = cb;
            parts = refl;
            headed = hw.1;
            laid = v.laid;
          };
          tree_is = refl;
          there = g;
          end = l;
          used_is = m;
          rows_are = rw (z, s, ← hw.3, ← v.rows_are);
          deep = v.deep;
          room_left = v.room_left free;
        }))))

    reader_value : (t : Target) (i at next parent : ℕ) → Spans file Seven at (suc i) next → (r : Found) → reader readers (suc i) ≡ r
        → Ok (ReadValue file readers shared room small (suc d) (object t) at used parent) (by_reader file readers shared room r below t (suc i) at next used parent)
    unfolding by_reader Value value_rows
    reader_value t i at next parent q missing g = not_read
    reader_value t i at next parent q (found u) g =
        ok_check (serves t u) 14 at _
        (λ b. ok_weaken (raw_sound u at next parent (suc i) (length q.0) q.3)
        (λ a e v.
        let ib = q.0 in
        let rb = v.bytes in
        let p : drop at file ≡ (ib ++ rb) ++ drop e file = q.2 ∙ ap (λ (l : List ℕ). ib ++ l) v.there ∙ sym (append_assoc ib rb (drop e file)) in
        let l : e ≡ at + length (ib ++ rb) = rw length-append (omega arith) in
        let z : length ib + length rb ≡ length (ib ++ rb) = sym (length-append ib rb) in
        record {
          kind = kind_of u;
          id = suc i;
          own = v.own;
          children = v.children;
          bytes = ib ++ rb;
          laid = inr (record {
            target = u;
            reader = reader-sound readers (suc i) u g;
            serves = serves-sound t u b;
            number = ib;
            value = rb;
            parts = refl;
            numbered = q.1;
            laid = v.laid;
          });
          tree_is = v.tree_is;
          there = p;
          end = l;
          used_is = v.used_is;
          rows_are = rw (← z, ← q.3) v.rows_are;
          deep = omega (arith, v.deep);
          room_left = v.room_left;
        }))

    -- a value without children, by its bytes; `z` is its row by its length
    childless : (x : Slot) (kind id : ℕ) (own bytes : List ℕ) (at next parent : ℕ) (z : ℕ → Draft)
        (laid : Value readers (Within shared) (λ plan b. Lays readers (Within shared) plan none b) x kind id own none bytes)
        → drop at file ≡ bytes ++ drop next file → next ≡ at + length bytes
        → z (length bytes) ∷ [] ≡ value_drafts readers (Within shared) (λ plan b. Lays readers (Within shared) plan none b)
        (λ plan b v a n p. drafts_of readers (Within shared) plan none b v a n p) x kind id own none bytes laid at used parent
        → Ok (ReadValue file readers shared room small (suc d) x at used parent) (done next (suc used) (z (next - at) ∷ []) (tree kind id own none none))
    unfolding size depth
    childless x kind id own bytes at next parent z laid there end rows =
        let m : next - at ≡ length bytes = omega arith in
        let n : suc used ≡ used + suc 0 = omega arith in
        is_read {a = (suc used, z (next - at) ∷ [], tree kind id own none none)} (record {
          kind = kind;
          id = id;
          own = own;
          children = none;
          bytes = bytes;
          laid = laid;
          tree_is = refl;
          there = there;
          end = end;
          used_is = n;
          rows_are = rw m rows;
          deep = omega arith;
          room_left = free;
        })

    id_value : (t : Target) (id at next parent : ℕ) → Spans file Seven at id next
        → Ok (ReadValue file readers shared room small (suc d) (object t) at used parent) (object_at file readers shared room below t id at next used parent)
    unfolding object_at Value value_rows size depth
    id_value t zero at next parent q =
        childless (object t) 0 0 [] q.0 at next parent (λ z. drafted (row 0 at z 0 parent 0 1))
        (inl (record { kind_of_lem = refl; id_of = refl; empty = refl; childless = refl; number = q.1 })) q.2 q.3 refl
    id_value t (suc i) at next parent q = reader_value t i at next parent q (reader readers (suc i)) refl

    value_sound : (x : Slot) (at parent : ℕ) → Ok (ReadValue file readers shared room small (suc d) x at used parent) (value_at file readers shared room below x at used parent)
    unfolding value_at Value value_rows size depth
    value_sound (raw t) at parent =
        ok_weaken (raw_sound t at at parent 0 0 (omega arith))
        (λ a e v.
        let z : 0 + length v.bytes ≡ length v.bytes = omega arith in
        record {
          kind = kind_of t;
          id = 0;
          own = v.own;
          children = v.children;
          bytes = v.bytes;
          laid = (refl, v.laid);
          tree_is = v.tree_is;
          there = v.there;
          end = v.end;
          used_is = v.used_is;
          rows_are = rw z at v.rows_are;
          deep = omega (arith, v.deep);
          room_left = v.room_left;
        })
    value_sound (object t) at parent = ok_bind ((seven_reads file).sound small at) (λ id next q. id_value t id at next parent q)
    value_sound (reference t) at parent =
        ok_bind ((seven_reads file).sound small at)
        (λ id next q. ok_check (leb id shared) 16 at _
        (λ b. childless (reference t) 36 id [] q.0 at next parent (λ z. wanting t (row 36 at z 0 parent id 1))
        (record { kind_of_lem = refl; empty = refl; childless = refl; named = leb-true id shared b; number = q.1 }) q.2 q.3 refl))
    value_sound (leaf x) at parent =
        ok_bind ((leaf_reads file x).sound small at)
        (λ own next q. childless (leaf x) (leaf_kind x) 0 own q.0 at next parent (λ z. drafted (row (leaf_kind x) at z 0 parent 0 1)) (refl, refl, q.1) q.2 q.3 refl)

  pub walk-sound : (d : ℕ) (x : Slot) (at used parent : ℕ) → Ok (ReadValue file readers shared room small d x at used parent) (walk file readers shared room d x at used parent)
  unfolding walk
  walk-sound zero x at used parent = not_read
  walk-sound (suc d) x at used parent =
      ok_check (ltb used room) 19 at _
      (λ b. value_sound d used _
      (λ plan a. sequence-sound file readers shared room small d (suc used) (λ y b v. walk file readers shared room d y b v (suc used)) (λ y b v. walk-sound d y b v (suc used)) plan a (suc used))
      (ltb-true used room b) x at parent)

  pub walks_sound : (d : ℕ) (plan : Plan) (at used parent : ℕ)
      → Ok (Read file readers shared room small d plan at used parent) (sequence (λ y b v. walk file readers shared room d y b v parent) plan at used)
  walks_sound d plan at used parent = sequence-sound file readers shared room small d parent (λ y b v. walk file readers shared room d y b v parent) (λ y b v. walk-sound d y b v parent) plan at used

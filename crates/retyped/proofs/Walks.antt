-- The walk over values side by side over two files, at every depth: one clause for each of its functions. Assumes nothing.
use Rattle.std.specs.Prelude.{◌≡◌, refl, ltb, leb, length}
use mathlib.Core.List.{List, [], ◌∷◌, ◌++◌}
use Prim.Native.Nat.{ℕ, zero, suc, ◌-◌}
use Rattle.layout.specs.Target.{Target, kind_of}
use Rattle.layout.specs.Tree.{Trees, none, tree, count, told_of}
use Rattle.layout.specs.Slot.{leaf_kind, Slot, raw, object, reference, leaf, Plan, stop, put}
use Rattle.layout.specs.Resource.{Within}
use Rattle.layout.specs.Rows.{row}
use Rattle.reading.specs.Answer.{read, bind, check}
use Rattle.reading.specs.Reads.{Small}
use Rattle.reading.specs.Seven.{seven_at}
use Rattle.reading.specs.Rules.{Found, missing, found, reader, serves}
use Rattle.reading.specs.Font.{font_ok}
use Rattle.reading.specs.Heads.{Opening, head_at, leaf_at}
use Rattle.reading.specs.Drafts.{drafted, wanting}
use Rattle.reading.specs.Walk.{Taken, Outcome, done, point, before, sequence, raw_at, by_reader, object_at, value_at, walk}
use Rattle.reading.proofs.Sound.{walks_sound}
use Rattle.retyped.specs.Texts.{Span, SequenceText, HeadText, RawText, ReaderText, ObjectText, ValueText, WalkText}
use Rattle.retyped.specs.Twin.{Twin, Wordless, twin-read, twin-refused, twin-check, twin-bind, twin_then, then_twin, quiet_check, quiet_bind}
use Rattle.retyped.specs.Leaves.{HeadAlike, head_own, seven-twin, leaf-twin}
use Rattle.retyped.proofs.Leaves.{head-twin}
use Rattle.retyped.specs.Alike.{Alike, TakenAlike, taken_own, tree-alike, before_alike, count-alike, told-alike, font_alike}
use Rattle.retyped.specs.Walks.{sequence-twin}

module _ (f g : List ℕ) (small : Small f) (equal : length f ≡ length g) (readers : List Target) (shared room : ℕ) where
  module _ (below below' : Plan → ℕ → ℕ → Outcome) (text text' : Plan → ℕ → ℕ → Span → Type 0)
      (twin : (plan : Plan) (at used : ℕ) → Twin f g TakenAlike (text plan at used) (text' plan at used) at (below plan at used) (below' plan at used))
      (fonts : (t : Target) (at : ℕ) (h : Opening) (n u : ℕ) → head_at f t at ≡ read h n → (a : Taken) (e : ℕ) → below h.1 n u ≡ read a e → (us : Trees) → Alike a.2 us → font_ok point t a.2 ≡ font_ok point t us) where
    module _ (t : Target) (first at used parent id : ℕ) where
      abbrev ended : List ℕ → Taken → ℕ → Outcome
      ended own a e = done e a.0 (drafted (row (kind_of t) first (e - first) (count a.2) parent id (a.0 - used)) ∷ a.1) (tree (kind_of t) id own a.2 none)

      abbrev finish : List ℕ → Taken → ℕ → Outcome
      finish own a e = check (font_ok point t a.2) 22 at (ended own a e)

      finish_twin : (h h' : Opening) → HeadAlike t h h' → (a a' : Taken) (e : ℕ) → font_ok point t a.2 ≡ font_ok point t a'.2 → TakenAlike a a'
          → Wordless f g TakenAlike e (finish h.0 a e) (finish h'.0 a' e)
      finish_twin h h' w a a' e fs v =
          rw (← fs, ← count-alike a.2 a'.2 v.2, ← v.0, ← v.1)
          (quiet_check f g (font_ok point t a.2) 22 at (ended h.0 a e) _ (λ b. twin-read f g
          {a = (a.0, drafted (row (kind_of t) first (e - first) (count a.2) parent id (a.0 - used)) ∷ a.1, tree (kind_of t) id h.0 a.2 none)}
          {a' = (a.0, drafted (row (kind_of t) first (e - first) (count a.2) parent id (a.0 - used)) ∷ a.1, tree (kind_of t) id h'.0 a'.2 none)}
          (refl, refl, tree-alike (kind_of t) id h.0 h'.0 a.2 a'.2 w.1 w.2 v.2)))

      raw_twin : Twin f g TakenAlike (RawText f readers shared room text t at used) (RawText g readers shared room text' t at used) at
          (raw_at f readers shared room below t first at used parent id) (raw_at g readers shared room below' t first at used parent id)
      unfolding raw_at RawText
      raw_twin =
          twin-bind f g (HeadText f t at) (HeadText g t at) (λ h n. text h.1 n (suc used)) (λ h n. text' h.1 n (suc used)) (head_at f t at) (head_at g t at)
          (λ h n. bind (below h.1 n (suc used)) (finish h.0)) (λ h n. bind (below' h.1 n (suc used)) (finish h.0)) (head_own t) (head-twin f g small equal t at)
          (λ h h' n q w.
          twin_then f g (text h.1 n (suc used)) (text' h'.1 n (suc used)) (below h.1 n (suc used)) (below' h'.1 n (suc used)) (finish h.0) (finish h'.0) taken_own
          (rw (← w.0) (twin h.1 n (suc used)))
          (λ a a' e p v. finish_twin h h' w a a' e (fonts t at h n (suc used) q a e p a'.2 v.2) v))

    reader-twin : (u : Found) (t : Target) (id at next used parent : ℕ)
        → Twin f g TakenAlike (ReaderText f readers shared room u text t next used) (ReaderText g readers shared room u text' t next used) next
        (by_reader f readers shared room u below t id at next used parent) (by_reader g readers shared room u below' t id at next used parent)
    unfolding by_reader ReaderText
    reader-twin missing t id at next used parent = twin-refused f g
    reader-twin (found u) t id at next used parent =
        twin-check f g (serves t u) 14 at (raw_at f readers shared room below u at next used parent id) (raw_at g readers shared room below' u at next used parent id) (λ b. raw_twin u at next used parent id)

    object_twin : (t : Target) (id at next used parent : ℕ)
        → Twin f g TakenAlike (ObjectText f readers shared room text t id next used) (ObjectText g readers shared room text' t id next used) next
        (object_at f readers shared room below t id at next used parent) (object_at g readers shared room below' t id at next used parent)
    unfolding object_at ObjectText
    object_twin t zero at next used parent =
        let a : Taken = (suc used, drafted (row 0 at (next - at) 0 parent 0 1) ∷ [], tree 0 0 [] none none) in
        twin-read f g {a = a} {a' = a} (taken_own a)
    object_twin t (suc i) at next used parent = reader-twin (reader readers (suc i)) t (suc i) at next used parent

    value_twin : (y : Slot) (at used parent : ℕ)
        → Twin f g TakenAlike (ValueText f readers shared room text y at used) (ValueText g readers shared room text' y at used) at
        (value_at f readers shared room below y at used parent) (value_at g readers shared room below' y at used parent)
    unfolding value_at ValueText
    value_twin (raw t) at used parent = raw_twin t at at used parent 0
    value_twin (object t) at used parent =
        then_twin f g (λ id n. ObjectText f readers shared room text t id n used) (λ id n. ObjectText g readers shared room text' t id n used) (seven_at f at) (seven_at g at)
        (λ id n. object_at f readers shared room below t id at n used parent) (λ id n. object_at g readers shared room below' t id at n used parent) (seven-twin f g small equal at)
        (λ id n q. object_twin t id at n used parent)
    value_twin (reference k) at used parent =
        let made : ℕ → ℕ → Taken = λ id n. (suc used, wanting k (row 36 at (n - at) 0 parent id 1) ∷ [], tree 36 id [] none none) in
        let go : ℕ → ℕ → Outcome = λ id n. check (leb id shared) 16 at (read (made id n) n) in
        quiet_bind f g (seven_at f at) (seven_at g at) go go (seven-twin f g small equal at)
        (λ id n q. quiet_check f g (leb id shared) 16 at (read (made id n) n) (read (made id n) n) (λ b. twin-read f g {a = made id n} {a' = made id n} (taken_own (made id n))))
    value_twin (leaf l) at used parent =
        let made : List ℕ → ℕ → Taken = λ own n. (suc used, drafted (row (leaf_kind l) at (n - at) 0 parent 0 1) ∷ [], tree (leaf_kind l) 0 own none none) in
        let go : List ℕ → ℕ → Outcome = λ own n. read (made own n) n in
        quiet_bind f g (leaf_at f l at) (leaf_at g l at) go go (leaf-twin f g small equal l at) (λ own n q. twin-read f g {a = made own n} {a' = made own n} (taken_own (made own n)))

  fonts_alike : (d parent : ℕ) (t : Target) (at : ℕ) (h : Opening) (n u : ℕ) → head_at f t at ≡ read h n → (a : Taken) (e : ℕ)
      → sequence (λ y b v. walk f readers shared room d y b v parent) h.1 n u ≡ read a e → (us : Trees) → Alike a.2 us → font_ok point t a.2 ≡ font_ok point t us
  fonts_alike d parent t at h n u q a e p us w =
      let v = (walks_sound f readers shared room small d h.1 n u parent).got p in
      font_alike readers (Within shared) f t at h n q a.2 us v.bytes v.laid w

  -- a value, at every depth
  pub walk-twin : (d : ℕ) (y : Slot) (at used parent : ℕ) → Twin f g TakenAlike (WalkText f readers shared room d y at used) (WalkText g readers shared room d y at used) at
      (walk f readers shared room d y at used parent) (walk g readers shared room d y at used parent)
  unfolding walk WalkText
  walk-twin zero y at used parent = twin-refused f g
  walk-twin (suc d) y at used parent =
      let step : Slot → ℕ → ℕ → Outcome = λ y b v. walk f readers shared room d y b v (suc used) in
      let step' : Slot → ℕ → ℕ → Outcome = λ y b v. walk g readers shared room d y b v (suc used) in
      let text : Slot → ℕ → ℕ → Span → Type 0 = λ y b v z. WalkText f readers shared room d y b v z in
      let text' : Slot → ℕ → ℕ → Span → Type 0 = λ y b v z. WalkText g readers shared room d y b v z in
      twin-check f g (ltb used room) 19 at
      (value_at f readers shared room (λ plan a u. sequence step plan a u) y at used parent) (value_at g readers shared room (λ plan a u. sequence step' plan a u) y at used parent)
      (λ b. value_twin (λ plan a u. sequence step plan a u) (λ plan a u. sequence step' plan a u) (λ plan a u z. SequenceText step text plan a u z) (λ plan a u z. SequenceText step' text' plan a u z)
      (λ plan a u. sequence-twin f g step step' text text' (λ y b v. walk-twin d y b v (suc used)) plan a u) (fonts_alike d (suc used)) y at used parent)

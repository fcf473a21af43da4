-- Reading a file with less room answers the same, unless it answers 19. Assumes nothing.
use Rattle.std.specs.Prelude.{◌≡◌, refl, Bool, true, false, List, ltb}
use Prim.Native.Nat.{ℕ, zero, suc, ◌≤◌}
use Rattle.std.proofs.Common.{arith, ltb-true, lt-ltb}
use Rattle.layout.specs.Target.{Target}
use Rattle.layout.specs.Tree.{told_of}
use Rattle.layout.specs.Slot.{Slot, raw, object, reference, leaf, Plan, stop, put}
use Rattle.layout.specs.File.{objects_plan}
use Rattle.reading.specs.Answer.{Answer, refused, read, bind, check}
use Rattle.reading.specs.Seven.{seven_at}
use Rattle.reading.specs.Rules.{Found, missing, found, reader, serves}
use Rattle.reading.specs.Heads.{head_at}
use Rattle.reading.specs.Walk.{Outcome, sequence, raw_at, by_reader, object_at, value_at, walk}
use Rattle.reading.specs.File.{Named, header_at, lists_at, objects_at, file_at}

-- the same answer, or a first one that found no row left
pub data Grows {A : Type 0} : Answer A → Answer A → Type 0 where
  alike : {x : Answer A} → Grows x x
  full : {p : ℕ} {y : Answer A} → Grows (refused 19 p) y

same_bind : {A B : Type 0} (x : Answer A) {k l : A → ℕ → Answer B} → ((a : A) (e : ℕ) → Grows (k a e) (l a e)) → Grows (bind x k) (bind x l)
unfolding bind
same_bind (refused n p) h = alike
same_bind (read a e) h = h a e

grows-bind : {A B : Type 0} {x y : Answer A} {k l : A → ℕ → Answer B} → Grows x y → ((a : A) (e : ℕ) → Grows (k a e) (l a e)) → Grows (bind x k) (bind y l)
unfolding bind
grows-bind (alike {x = x}) h = same_bind x h
grows-bind full h = full

same_check : {A : Type 0} (b : Bool) (n p : ℕ) {x y : Answer A} → Grows x y → Grows (check b n p x) (check b n p y)
unfolding check
same_check true n p g = g
same_check false n p g = alike

-- where a row is asked for
room_check : {A : Type 0} (used room room' at : ℕ) {x y : Answer A} → room ≤ room' → Grows x y → Grows (check (ltb used room) 19 at x) (check (ltb used room') 19 at y)
unfolding check
room_check used room room' at {x} {y} h g = go (ltb used room) refl where
  go : (b : Bool) → ltb used room ≡ b → Grows (check b 19 at x) (check (ltb used room') 19 at y)
  go true e = let l = ltb-true used room e in rw (lt-ltb used room' (omega arith)) g
  go false e = full

module _ (file : List ℕ) (readers : List Target) (shared room room' : ℕ) (h : room ≤ room') where
  abbrev Steps : (f g : Slot → ℕ → ℕ → Outcome) → Type 0
  Steps f g = (x : Slot) (at used : ℕ) → Grows (f x at used) (g x at used)

  sequence_grows : (f g : Slot → ℕ → ℕ → Outcome) → Steps f g → (plan : Plan) (at used : ℕ) → Grows (sequence f plan at used) (sequence g plan at used)
  unfolding sequence
  sequence_grows f g s stop at used = alike
  sequence_grows f g s (put x go) at used = grows-bind (s x at used) (λ a n. grows-bind (sequence_grows f g s (go (told_of a.2)) n a.0) (λ b m. alike))

  abbrev Belows : (f g : Plan → ℕ → ℕ → Outcome) → Type 0
  Belows f g = (plan : Plan) (at used : ℕ) → Grows (f plan at used) (g plan at used)

  module _ (f g : Plan → ℕ → ℕ → Outcome) (s : Belows f g) where
    raw_grows : (t : Target) (first at used parent id : ℕ) → Grows (raw_at file readers shared room f t first at used parent id) (raw_at file readers shared room' g t first at used parent id)
    unfolding raw_at
    raw_grows t first at used parent id = same_bind (head_at file t at) (λ o next. grows-bind (s o.1 next (suc used)) (λ a e. alike))

    by_grows : (r : Found) (t : Target) (id at next used parent : ℕ) → Grows (by_reader file readers shared room r f t id at next used parent) (by_reader file readers shared room' r g t id at next used parent)
    unfolding by_reader
    by_grows missing t id at next used parent = alike
    by_grows (found u) t id at next used parent = same_check (serves t u) 14 at (raw_grows u at next used parent id)

    object_grows : (t : Target) (id at next used parent : ℕ) → Grows (object_at file readers shared room f t id at next used parent) (object_at file readers shared room' g t id at next used parent)
    unfolding object_at
    object_grows t zero at next used parent = alike
    object_grows t (suc i) at next used parent = by_grows (reader readers (suc i)) t (suc i) at next used parent

    value_grows : (x : Slot) (at used parent : ℕ) → Grows (value_at file readers shared room f x at used parent) (value_at file readers shared room' g x at used parent)
    unfolding value_at
    value_grows (raw t) at used parent = raw_grows t at at used parent 0
    value_grows (object t) at used parent = same_bind (seven_at file at) (λ id next. object_grows t id at next used parent)
    value_grows (reference wanted) at used parent = alike
    value_grows (leaf x) at used parent = alike

  walk_grows : (d : ℕ) (x : Slot) (at used parent : ℕ) → Grows (walk file readers shared room d x at used parent) (walk file readers shared room' d x at used parent)
  unfolding walk
  walk_grows zero x at used parent = alike
  walk_grows (suc d) x at used parent =
      room_check used room room' at h
      (value_grows _ _ (λ plan a u. sequence_grows _ _ (λ y b v. walk_grows d y b v (suc used)) plan a u) x at used parent)

  objects_grows : (at : ℕ) → Grows (objects_at file room readers shared at) (objects_at file room' readers shared at)
  unfolding objects_at
  objects_grows at = sequence_grows _ _ (λ x a used. walk_grows 32 x a used 0) (objects_plan shared) at 0

-- with more room a file is read as with less, unless there was no row left
pub file_grows : (name_of : ℕ → List ℕ → Named) (file : List ℕ) (room room' : ℕ) → room ≤ room' → Grows (file_at name_of file room) (file_at name_of file room')
unfolding file_at
file_grows name_of file room room' h =
    same_bind (header_at file) (λ o at. same_bind (lists_at name_of file at) (λ l first. grows-bind (objects_grows file l.1 l.2 room room' h first) (λ a e. alike)))

-- No part of a file but a reader's name is refused with 11 or 33 to 38. Assumes nothing.
use mathlib.Core.Path.{◌≡◌, refl}
use mathlib.Core.Bool.{Bool, true, false, cond}
use mathlib.Core.List.{List, [], ◌∷◌}
use Prim.Native.Nat.{ℕ, zero, suc}
use lib.Dec.{eqb, ltb, leb}
use lib.ListN.{length, drop}
use Rattle.laws.specs.Small.{differ}
use Rattle.layout.specs.Target.{Target, fixed, char, string, object, texture, texture_2d, sprite_font, page, mesh, enum, nullable, array, list, dictionary}
use Rattle.layout.specs.Slot.{Leaf, level, blob, numeric, Slot, raw, reference, leaf, object as an_object, Plan, stop, put}
use Rattle.layout.specs.File.{objects_plan}
use Rattle.layout.specs.Tree.{told_of}
use Rattle.reading.specs.Answer.{Answer, refused, read, bind, check}
use Rattle.reading.specs.Reads.{some, field}
use Rattle.reading.specs.Seven.{group, groups, seven_at}
use Rattle.reading.specs.Little.{little_at}
use Rattle.reading.specs.Utf8.{char_of, char_at}
use Rattle.reading.specs.Fixed.{fixed_at}
use Rattle.reading.specs.Rules.{Found, missing, found, reader}
use Rattle.reading.specs.Heads.{own_at, whole, fixed_head_at, text_at, flag_at, count_at, image_at, leaf_at, head_at}
use Rattle.reading.specs.Walk.{Outcome, sequence, raw_at, by_reader, object_at, value_at, walk}
use Rattle.reading.specs.Drafts.{Draft}
use Rattle.reading.specs.File.{header_at, judged, objects_at, finished}
use Rattle.reading.specs.Walk.{Taken}

-- the numbers of a name: 11, and 33 to 38
abbrev pub is_name : (number : ℕ) → Bool
is_name n = cond (eqb n 11) true (cond (leb n 38) (leb 33 n) false)

-- a refusal has another number
abbrev pub Other : {A : Type 0} → Answer A → Type 0
Other x = (n p : ℕ) → x ≡ refused n p → is_name n ≡ false

pub of_read : {A : Type 0} {a : A} {e : ℕ} → Other (read a e)
of_read n p q = differ cc

of_refused : {A : Type 0} (m : ℕ) {q : ℕ} → is_name m ≡ false → Other {A = A} (refused m q)
of_refused m o n p e = let z : n ≡ m = cc in rw z o

pub other_bind : {A B : Type 0} (x : Answer A) {k : A → ℕ → Answer B} → Other x → ((a : A) (e : ℕ) → Other (k a e)) → Other (bind x k)
unfolding bind
other_bind (refused m q) {k} f g n p e =
    let z : m ≡ n = cc in
    let y : q ≡ p = cc in
    f n p (rw (z, y))
other_bind (read a e) f g n p q = g a e n p q

pub other_check : {A : Type 0} (b : Bool) (m q : ℕ) {x : Answer A} → is_name m ≡ false → Other x → Other (check b m q x)
unfolding check
other_check true m q o f = f
other_check false m q o f = of_refused m o

module _ (file : List ℕ) where
  group_other : (t : Bool) (b at : ℕ) (rest : Answer ℕ) → Other rest → Other (group t b at rest)
  unfolding group
  group_other true b at rest g = of_read
  group_other false b at rest g = other_bind rest g (λ n e. of_read)

  groups_other : (k start at : ℕ) (l : List ℕ) → Other (groups k start at l)
  unfolding groups
  groups_other zero start at l = of_refused 8 refl
  groups_other (suc k) start at [] = of_refused 1 refl
  groups_other (suc k) start at (b ∷ l) = group_other (ltb b 128) b at (groups k start (suc at) l) (groups_other k start (suc at) l)

  pub seven_other : (at : ℕ) → Other (seven_at file at)
  unfolding seven_at
  seven_other at = other_bind _ (groups_other 5 at at (drop at file)) (λ n e. other_check _ 8 at refl of_read)

  pub some_other : (n place at : ℕ) → Other (some file n place at)
  unfolding some
  some_other n place at = other_check _ 1 place refl of_read

  pub little_other : (k place at : ℕ) → Other (little_at file k place at)
  unfolding little_at
  little_other k place at = other_bind _ (some_other k place at) (λ bs e. of_read)

  char_other : (at : ℕ) (l : List ℕ) → Other (char_of at l)
  unfolding char_of
  char_other at [] = of_refused 1 refl
  char_other at (c ∷ l) = other_check _ 15 at refl (other_check _ 1 at refl (other_check _ 15 at refl of_read))

  field_other : {A B : Type 0} (r : ℕ → Answer A) (rule : A → Bool) (f : A → B) (place at : ℕ) → Other (r at) → Other (field file r rule f place at)
  unfolding field
  field_other r rule f place at g = other_bind (r at) g (λ a e. other_check _ 15 place refl of_read)

  whole_other : (x : Answer (List ℕ)) → Other x → Other (whole file x)
  unfolding whole
  whole_other x g = other_bind x g (λ own e. of_read)

  fixed_other : (k at : ℕ) → Other (fixed_head_at file k at)
  unfolding fixed_head_at fixed_at
  fixed_other k at = other_check _ 15 at refl (whole_other _ (field_other _ _ _ at at (some_other _ at at)))

  own_other : (at : ℕ) → Other (own_at file (char_at file) at)
  unfolding own_at char_at
  own_other at = other_bind _ (char_other at (drop at file)) (λ c e. of_read)

  text_other : (at : ℕ) → Other (text_at file at)
  unfolding text_at
  text_other at = other_bind _ (seven_other at) (λ n e. field_other _ _ _ at e (some_other n at e))

  count_other : (slots : ℕ → List Slot) (at : ℕ) → Other (count_at file slots at)
  unfolding count_at
  count_other slots at = field_other _ _ _ at at (little_other 4 at at)

  image_other : (at : ℕ) → Other (image_at file at)
  unfolding image_at
  image_other at =
      other_bind _ (little_other 4 at at) (λ f e. other_check _ 15 at refl
      (other_bind _ (little_other 4 e e) (λ w e₂. other_check _ 15 e refl
      (other_bind _ (little_other 4 e₂ e₂) (λ h e₃. other_check _ 15 e₂ refl
      (other_bind _ (little_other 4 e₃ e₃) (λ n e₄. other_check _ 15 e₃ refl of_read)))))))

  leaf_other : (x : Leaf) (at : ℕ) → Other (leaf_at file x at)
  unfolding leaf_at
  leaf_other (level z) at = other_bind _ (little_other 4 at at) (λ n e. other_check _ 15 at refl (some_other n at e))
  leaf_other (blob z) at = some_other z at at
  leaf_other (numeric f z rule) at = field_other _ _ _ at at (some_other z at at)

  head_other : (t : Target) (at : ℕ) → Other (head_at file t at)
  unfolding head_at flag_at
  head_other (fixed k) at = fixed_other k at
  head_other char at = whole_other _ (own_other at)
  head_other string at = text_other at
  head_other object at = of_refused 13 refl
  head_other (enum name z) at = whole_other _ (some_other z at at)
  head_other (nullable t) at = field_other _ _ _ at at (some_other 1 at at)
  head_other (array t) at = count_other _ at
  head_other (list t) at = count_other _ at
  head_other (dictionary k v) at = count_other _ at
  head_other texture at = of_refused 13 refl
  head_other texture_2d at = image_other at
  head_other sprite_font at = of_read
  head_other page at = of_read
  head_other (mesh m) at = of_read

  sequence_other : (step : Slot → ℕ → ℕ → Outcome) → ((x : Slot) (at used : ℕ) → Other (step x at used)) → (plan : Plan) (at used : ℕ) → Other (sequence step plan at used)
  unfolding sequence
  sequence_other step f stop at used = of_read
  sequence_other step f (put x go) at used = other_bind _ (f x at used) (λ a n. other_bind _ (sequence_other step f (go (told_of a.2)) n a.0) (λ b e. of_read))

  module _ (readers : List Target) (shared room : ℕ) where
    module _ (below : Plan → ℕ → ℕ → Outcome) (f : (plan : Plan) (at used : ℕ) → Other (below plan at used)) where
      raw_other : (t : Target) (first at used parent id : ℕ) → Other (raw_at file readers shared room below t first at used parent id)
      unfolding raw_at
      raw_other t first at used parent id = other_bind _ (head_other t at) (λ o next. other_bind _ (f o.1 next (suc used)) (λ a e. other_check _ 22 at refl of_read))

      reader_other : (x : Found) (t : Target) (id at next used parent : ℕ) → Other (by_reader file readers shared room x below t id at next used parent)
      unfolding by_reader
      reader_other missing t id at next used parent = of_refused 13 refl
      reader_other (found u) t id at next used parent = other_check _ 14 at refl (raw_other u at next used parent id)

      object_other : (t : Target) (id at next used parent : ℕ) → Other (object_at file readers shared room below t id at next used parent)
      unfolding object_at
      object_other t zero at next used parent = of_read
      object_other t (suc i) at next used parent = reader_other (reader readers (suc i)) t (suc i) at next used parent

      value_other : (x : Slot) (at used parent : ℕ) → Other (value_at file readers shared room below x at used parent)
      unfolding value_at
      value_other (raw t) at used parent = raw_other t at at used parent 0
      value_other (an_object t) at used parent = other_bind _ (seven_other at) (λ id next. object_other t id at next used parent)
      value_other (reference t) at used parent = other_bind _ (seven_other at) (λ id next. other_check _ 16 at refl of_read)
      value_other (leaf x) at used parent = other_bind _ (leaf_other x at) (λ own next. of_read)

    walk_other : (d : ℕ) (x : Slot) (at used parent : ℕ) → Other (walk file readers shared room d x at used parent)
    unfolding walk
    walk_other zero x at used parent = of_refused 18 refl
    walk_other (suc d) x at used parent =
        other_check _ 19 at refl
        (value_other _ (λ plan a u. sequence_other (λ y b v. walk file readers shared room d y b v (suc used)) (λ y b v. walk_other d y b v (suc used)) plan a u) x at used parent)

    pub objects_other : (at : ℕ) → Other (objects_at file room readers shared at)
    unfolding objects_at
    objects_other at = sequence_other _ (λ x a used. walk_other 32 x a used 0) (objects_plan shared) at 0

  judged_other : {A : Type 0} (shared : List ℕ) (rows : List Draft) (x : Answer A) → Other x → Other (judged shared rows x)
  unfolding judged
  judged_other shared [] x g = g
  judged_other shared (d ∷ rows) x g = other_check _ 17 d.row.first refl (judged_other shared rows x g)

  pub finished_other : (platform flags : ℕ) (names : List (List ℕ)) (readers shared : ℕ) (a : Taken) (e : ℕ) → Other (finished file platform flags names readers shared a e)
  unfolding finished
  finished_other platform flags names readers shared a e = other_check _ 20 e refl (judged_other _ a.1 _ of_read)

  pub header_other : Other (header_at file)
  unfolding header_at
  header_other =
      other_check _ 9 0 refl (other_check _ 1 0 refl (other_check _ 2 0 refl (other_check _ 2 0 refl (other_check _ 2 0 refl
      (other_check _ 3 3 refl (other_check _ 4 4 refl (other_check _ 5 5 refl (other_check _ 6 5 refl (other_check _ 7 6 refl of_read)))))))))

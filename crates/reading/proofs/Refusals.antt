-- What a refusal tells, for every file and every number of words: one of a load's numbers, and a place inside the file and within the limit on its length.
-- So a place fits 32 bits, as in the one number that an asset builder is told (01, "Looking up"). Assumes nothing.
use Rattle.std.specs.Prelude.{◌≡◌, Bool, cond, ◌⊎◌, eqb, ltb, leb, drop}
use Rattle.std.proofs.Math.Path.{refl, ap}
use Rattle.std.proofs.Common.{sym, inl, inr, arith, length-take-le}
use Rattle.std.proofs.Math.Bool.{true, false}
use mathlib.Core.List.{List, [], ◌∷◌, ◌++◌}
use Prim.Native.Nat.{ℕ, zero, suc, ◌+◌, ◌≤◌}
use Rattle.std.proofs.Math.ListN.{length, length-drop}
use borrow.Author.Tests.{leb-true, eqb-true}
use Rattle.laws.specs.Small.{differ}
use Rattle.layout.specs.Target.{Target, fixed, char, string, object, texture, texture_2d, sprite_font, page, mesh, enum, nullable, array, list, dictionary}
use Rattle.layout.specs.Slot.{Leaf, level, blob, numeric, Slot, raw, reference, leaf, object as an_object, Plan, stop, put}
use Rattle.layout.specs.File.{objects_plan}
use Rattle.layout.specs.Rows.{row}
use Rattle.layout.specs.Tree.{told_of}
use Rattle.layout.specs.Refusals.{LoadNumber}
use Rattle.layout.specs.Table.{room_of}
use Rattle.reading.specs.Answer.{Answer, refused, read, bind, check, several}
use Rattle.reading.specs.Reads.{some, field}
use Rattle.reading.specs.Seven.{group, groups, seven_at}
use Rattle.reading.specs.Little.{little_at}
use Rattle.reading.specs.Utf8.{size, char_of, char_at}
use Rattle.reading.specs.Fixed.{fixed_at}
use Rattle.reading.specs.Rules.{Found, missing, found, reader}
use Rattle.reading.specs.Heads.{own_at, whole, fixed_head_at, text_at, flag_at, count_at, image_at, leaf_at, head_at}
use Rattle.reading.specs.Walk.{Taken, Outcome, sequence, raw_at, by_reader, object_at, value_at, walk}
use Rattle.reading.specs.File.{header_at, Named, unknown, known, judge, judged, Loaded, objects_at, finished, reader_at, readers_at, lists_at, file_at, refusal, to_load, load_of}
use Rattle.reading.specs.Drafts.{Draft}
use Rattle.reading.specs.Refusals.{Placed, Tells, WithinName, of_read, of_refused}

tells-bind : {A B : Type 0} {R : ℕ → ℕ → Type 0} {P : A → ℕ → Type 0} {Q : B → ℕ → Type 0} {x : Answer A} {k : A → ℕ → Answer B}
    → Tells R P x → ((a : A) (e : ℕ) → P a e → Tells R Q (k a e)) → Tells R Q (bind x k)
unfolding bind
tells-bind (of_refused r) f = of_refused r
tells-bind (of_read p) f = f _ _ p

tells-check : {A : Type 0} {R : ℕ → ℕ → Type 0} {Q : A → ℕ → Type 0} (b : Bool) (n p : ℕ) (x : Answer A)
    → R n p → (b ≡ true → Tells R Q x) → Tells R Q (check b n p x)
unfolding check
tells-check true n p x r f = f refl
tells-check false n p x r f = of_refused r

-- the numbers of refusals as a test
abbrev is_number : (number : ℕ) → Bool
is_number n = cond (leb n 9) (leb 1 n) (cond (leb n 20) (leb 11 n) (cond (eqb n 22) true (cond (leb n 38) (leb 33 n) false)))

is_number_lem : (n : ℕ) → is_number n ≡ true → LoadNumber n
is_number_lem n q = go (leb n 9) (leb n 20) (eqb n 22) (leb n 38) refl refl refl refl q where
  go : (a b c d : Bool) → leb n 9 ≡ a → leb n 20 ≡ b → eqb n 22 ≡ c → leb n 38 ≡ d
      → cond a (leb 1 n) (cond b (leb 11 n) (cond c true (cond d (leb 33 n) false))) ≡ true → LoadNumber n
  go true b c d w x y z q = inl (leb-true 1 n q, leb-true n 9 w)
  go false true c d w x y z q = inr (inl (leb-true 11 n q, leb-true n 20 x))
  go false false true d w x y z q = inr (inr (inl (eqb-true n 22 y)))
  go false false false true w x y z q = inr (inr (inr (leb-true 33 n q, leb-true n 38 z)))
  go false false false false w x y z q = differ cc

-- the first byte of each row is at most at `most`
data Firsts (most : ℕ) : List Draft → Type 0 where
  no_rows : Firsts most []
  one_more : {d : Draft} {rows : List Draft} → d.row.first ≤ most → Firsts most rows → Firsts most (d ∷ rows)

firsts_append : {most : ℕ} {a b : List Draft} → Firsts most a → Firsts most b → Firsts most (a ++ b)
firsts_append no_rows g = g
firsts_append (one_more h f) g = one_more h (firsts_append f g)

module _ (file : List ℕ) (most : ℕ) (fits : length file ≤ most) where
  -- a refusal is at most at `most`, and a next byte is inside the file
  abbrev Inside : {A : Type 0} → Answer A → Type 0
  Inside x = Tells (Placed most) (λ a e. e ≤ length file) x

  -- a refusal at a place inside the file
  fault : (n : ℕ) {p : ℕ} → is_number n ≡ true → p ≤ length file → Placed most n p
  fault n q h = record { number_is = is_number_lem n q; placed = omega arith }

  -- ---- numbers and bytes

  bytes_behind : (at : ℕ) → at ≤ length file → at + length (drop at file) ≤ length file
  bytes_behind at h = omega (arith, length-drop at file)

  group_inside : (t : Bool) (b at : ℕ) (rest : Answer ℕ) → suc at ≤ length file → Inside rest → Inside (group t b at rest)
  unfolding group
  group_inside true b at rest h g = of_read h
  group_inside false b at rest h g = tells-bind g (λ n e k. of_read k)

  groups_inside : (k start at : ℕ) (l : List ℕ) → start ≤ length file → at + length l ≤ length file → Inside (groups k start at l)
  unfolding groups
  groups_inside zero start at l s h = of_refused (fault 8 refl s)
  groups_inside (suc k) start at [] s h = of_refused (fault 1 refl s)
  groups_inside (suc k) start at (b ∷ l) s h = group_inside (ltb b 128) b at (groups k start (suc at) l) (omega arith) (groups_inside k start (suc at) l s (omega arith))

  seven_inside : (at : ℕ) → at ≤ length file → Inside (seven_at file at)
  unfolding seven_at
  seven_inside at h =
      tells-bind (groups_inside 5 at at (drop at file) h (bytes_behind at h)) (λ n e k. tells-check _ 8 at _ (fault 8 refl h) (λ t. of_read k))

  some_inside : (n place at : ℕ) → place ≤ length file → at ≤ length file → Inside (some file n place at)
  unfolding some
  some_inside n place at p h =
      tells-check (leb n (length (drop at file))) 1 place _ (fault 1 refl p)
      (λ t. let l = leb-true n (length (drop at file)) t in let b = bytes_behind at h in of_read (omega arith))

  little_inside : (k place at : ℕ) → place ≤ length file → at ≤ length file → Inside (little_at file k place at)
  unfolding little_at
  little_inside k place at p h = tells-bind (some_inside k place at p h) (λ bs e k. of_read k)

  char_inside : (at : ℕ) (l : List ℕ) → at ≤ length file → at + length l ≤ length file → Inside (char_of at l)
  unfolding char_of
  char_inside at [] h b = of_refused (fault 1 refl h)
  char_inside at (c ∷ l) h b =
      tells-check _ 15 at _ (fault 15 refl h) (λ s. tells-check (leb (size c) (suc (length l))) 1 at _ (fault 1 refl h) (λ t.
      let k = leb-true (size c) (suc (length l)) t in
      tells-check _ 15 at _ (fault 15 refl h) (λ u. of_read (omega arith))))

  -- ---- heads and leaves

  field_inside : {A B : Type 0} (r : ℕ → Answer A) (rule : A → Bool) (f : A → B) (place at : ℕ) → place ≤ length file → Inside (r at) → Inside (field file r rule f place at)
  unfolding field
  field_inside r rule f place at p g = tells-bind g (λ a e k. tells-check _ 15 place _ (fault 15 refl p) (λ t. of_read k))

  whole_inside : {x : Answer (List ℕ)} → Inside x → Inside (whole file x)
  unfolding whole
  whole_inside g = tells-bind g (λ own e k. of_read k)

  fixed_inside : (k at : ℕ) → at ≤ length file → Inside (fixed_head_at file k at)
  unfolding fixed_head_at fixed_at
  fixed_inside k at h = tells-check _ 15 at _ (fault 15 refl h) (λ t. whole_inside (field_inside _ _ _ at at h (some_inside _ at at h h)))

  own_inside : (at : ℕ) → at ≤ length file → Inside (own_at file (char_at file) at)
  unfolding own_at char_at
  own_inside at h = tells-bind (char_inside at (drop at file) h (bytes_behind at h)) (λ c e k. of_read k)

  text-inside : (at : ℕ) → at ≤ length file → Inside (text_at file at)
  unfolding text_at
  text-inside at h = tells-bind (seven_inside at h) (λ n e k. field_inside _ _ _ at e h (some_inside n at e h k))

  count_inside : (slots : ℕ → List Slot) (at : ℕ) → at ≤ length file → Inside (count_at file slots at)
  unfolding count_at
  count_inside slots at h = field_inside _ _ _ at at h (little_inside 4 at at h h)

  image_inside : (at : ℕ) → at ≤ length file → Inside (image_at file at)
  unfolding image_at
  image_inside at h =
      tells-bind (little_inside 4 at at h h) (λ f e h₁. tells-check _ 15 at _ (fault 15 refl h) (λ t.
      tells-bind (little_inside 4 e e h₁ h₁) (λ w e₂ h₂. tells-check _ 15 e _ (fault 15 refl h₁) (λ t.
      tells-bind (little_inside 4 e₂ e₂ h₂ h₂) (λ h e₃ h₃. tells-check _ 15 e₂ _ (fault 15 refl h₂) (λ t.
      tells-bind (little_inside 4 e₃ e₃ h₃ h₃) (λ n e₄ h₄. tells-check _ 15 e₃ _ (fault 15 refl h₃) (λ t.
      of_read h₄))))))))

  leaf_inside : (x : Leaf) (at : ℕ) → at ≤ length file → Inside (leaf_at file x at)
  unfolding leaf_at
  leaf_inside (level z) at h = tells-bind (little_inside 4 at at h h) (λ n e k. tells-check _ 15 at _ (fault 15 refl h) (λ t. some_inside n at e h k))
  leaf_inside (blob z) at h = some_inside z at at h h
  leaf_inside (numeric f z rule) at h = field_inside _ _ _ at at h (some_inside z at at h h)

  head_inside : (t : Target) (at : ℕ) → at ≤ length file → Inside (head_at file t at)
  unfolding head_at flag_at
  head_inside (fixed k) at h = fixed_inside k at h
  head_inside char at h = whole_inside (own_inside at h)
  head_inside string at h = text-inside at h
  head_inside object at h = of_refused (fault 13 refl h)
  head_inside (enum name z) at h = whole_inside (some_inside z at at h h)
  head_inside (nullable t) at h = field_inside _ _ _ at at h (some_inside 1 at at h h)
  head_inside (array t) at h = count_inside _ at h
  head_inside (list t) at h = count_inside _ at h
  head_inside (dictionary k v) at h = count_inside _ at h
  head_inside texture at h = of_refused (fault 13 refl h)
  head_inside texture_2d at h = image_inside at h
  head_inside sprite_font at h = of_read h
  head_inside page at h = of_read h
  head_inside (mesh m) at h = of_read h

  -- ---- values, with the first bytes of their rows

  abbrev Rows : Taken → ℕ → Type 0
  Rows a e = (e ≤ length file) × Firsts (length file) a.1

  abbrev Walks : Outcome → Type 0
  Walks x = Tells (Placed most) Rows x

  sequence_inside : (step : Slot → ℕ → ℕ → Outcome) → ((x : Slot) (at used : ℕ) → at ≤ length file → Walks (step x at used))
      → (plan : Plan) (at used : ℕ) → at ≤ length file → Walks (sequence step plan at used)
  unfolding sequence
  sequence_inside step f stop at used h = of_read (h, no_rows)
  sequence_inside step f (put x go) at used h =
      tells-bind (f x at used h) (λ a n p. tells-bind (sequence_inside step f (go (told_of a.2)) n a.0 p.0)
      (λ b e q. of_read (q.0, firsts_append p.1 q.1)))

  module _ (readers : List Target) (shared room : ℕ) where
    module _ (below : Plan → ℕ → ℕ → Outcome) (f : (plan : Plan) (at used : ℕ) → at ≤ length file → Walks (below plan at used)) where
      raw_inside : (t : Target) (first at used parent id : ℕ) → first ≤ length file → at ≤ length file → Walks (raw_at file readers shared room below t first at used parent id)
      unfolding raw_at
      raw_inside t first at used parent id g h =
          tells-bind (head_inside t at h) (λ o next k. tells-bind (f o.1 next (suc used) k) (λ a e p.
          tells-check _ 22 at _ (fault 22 refl h) (λ t. of_read (p.0, one_more g p.1))))

      reader_inside : (x : Found) (t : Target) (id at next used parent : ℕ) → at ≤ length file → next ≤ length file
          → Walks (by_reader file readers shared room x below t id at next used parent)
      unfolding by_reader
      reader_inside missing t id at next used parent h k = of_refused (fault 13 refl h)
      reader_inside (found u) t id at next used parent h k = tells-check _ 14 at _ (fault 14 refl h) (λ b. raw_inside u at next used parent id h k)

      object_inside : (t : Target) (id at next used parent : ℕ) → at ≤ length file → next ≤ length file → Walks (object_at file readers shared room below t id at next used parent)
      unfolding object_at
      object_inside t zero at next used parent h k = of_read (k, one_more h no_rows)
      object_inside t (suc i) at next used parent h k = reader_inside (reader readers (suc i)) t (suc i) at next used parent h k

      value-inside : (x : Slot) (at used parent : ℕ) → at ≤ length file → Walks (value_at file readers shared room below x at used parent)
      unfolding value_at
      value-inside (raw t) at used parent h = raw_inside t at at used parent 0 h h
      value-inside (an_object t) at used parent h = tells-bind (seven_inside at h) (λ id next k. object_inside t id at next used parent h k)
      value-inside (reference t) at used parent h =
          tells-bind (seven_inside at h) (λ id next k. tells-check _ 16 at _ (fault 16 refl h) (λ b. of_read (k, one_more h no_rows)))
      value-inside (leaf x) at used parent h = tells-bind (leaf_inside x at h) (λ own next k. of_read (k, one_more h no_rows))

    walk_inside : (d : ℕ) (x : Slot) (at used parent : ℕ) → at ≤ length file → Walks (walk file readers shared room d x at used parent)
    unfolding walk
    walk_inside zero x at used parent h = of_refused (fault 18 refl h)
    walk_inside (suc d) x at used parent h =
        tells-check _ 19 at _ (fault 19 refl h) (λ b. value-inside _
        (λ plan a u k. sequence_inside (λ y b v. walk file readers shared room d y b v (suc used)) (λ y b v g. walk_inside d y b v (suc used) g) plan a u k) x at used parent h)

  -- 17 is at a row's first byte
  judged_inside : {A : Type 0} {Q : A → ℕ → Type 0} {rows : List Draft} (shared : List ℕ) (x : Answer A)
      → Firsts (length file) rows → Tells (Placed most) Q x → Tells (Placed most) Q (judged shared rows x)
  unfolding judged
  judged_inside shared x no_rows g = g
  judged_inside shared x (one_more {d = d} h f) g = tells-check _ 17 d.row.first _ (fault 17 refl h) (λ t. judged_inside shared x f g)

  finished_inside : (platform flags : ℕ) (names : List (List ℕ)) (readers shared : ℕ) (a : Taken) (e : ℕ) → Rows a e → Inside (finished file platform flags names readers shared a e)
  unfolding finished
  finished_inside platform flags names readers shared a e h =
      tells-check _ 20 e _ (fault 20 refl h.0) (λ t. judged_inside _ _ h.1 (of_read h.0))

-- a file that is too long is refused at 0; after that the length of the file is within `most`
header-inside : (file : List ℕ) (most : ℕ) → (length file ≤ 16777216 → length file ≤ most)
    → Tells (Placed most) (λ h e. (e ≤ length file) × (length file ≤ most)) (header_at file)
unfolding header_at
header-inside file most fits =
    tells-check (leb (length file) 16777216) 9 0 _ (record { number_is = is_number_lem 9 refl; placed = omega arith }) (λ t.
    let m = fits (leb-true (length file) 16777216 t) in
    tells-check (leb 10 (length file)) 1 0 _ (fault file most m 1 refl (omega arith)) (λ u.
    let l = leb-true 10 (length file) u in
    tells-check _ 2 0 _ (fault file most m 2 refl (omega arith)) (λ c.
    tells-check _ 2 0 _ (fault file most m 2 refl (omega arith)) (λ c.
    tells-check _ 2 0 _ (fault file most m 2 refl (omega arith)) (λ c.
    tells-check _ 3 3 _ (fault file most m 3 refl (omega arith)) (λ c.
    tells-check _ 4 4 _ (fault file most m 4 refl (omega arith)) (λ c.
    tells-check _ 5 5 _ (fault file most m 5 refl (omega arith)) (λ c.
    tells-check _ 6 5 _ (fault file most m 6 refl (omega arith)) (λ c.
    tells-check _ 7 6 _ (fault file most m 7 refl (omega arith)) (λ c.
    of_read (l, m)))))))))))

module _ (name_of : ℕ → List ℕ → Named) (numbers : WithinName name_of) (file : List ℕ) where
  module _ (most : ℕ) (fits : length file ≤ most) where
    judge_inside : (first : ℕ) (name : List ℕ) (x : Named) (at : ℕ) → name_of first name ≡ x → at ≡ first + length name → at ≤ length file → Inside file most fits (judge x at)
    unfolding judge
    judge_inside first name (unknown number place) at e z h = of_refused (by_number q.0) where
      q : ((number ≡ 11) ⊎ ((33 ≤ number) × (number ≤ 38))) × (place ≤ first + length name)
      q = numbers first name number place e

      by_number : (number ≡ 11) ⊎ ((33 ≤ number) × (number ≤ 38)) → Placed most number place
      by_number (inl i) = record { number_is = inr (inl (omega arith, omega arith)); placed = omega (arith, q.1) }
      by_number (inr i) = record { number_is = inr (inr (inr i)); placed = omega (arith, q.1) }
    judge_inside first name (known t) at e z h = of_read h

    -- a part of the file, and where it ends
    part-inside : (n at first : ℕ) → at ≤ length file → first ≤ length file → Tells (Placed most) (λ bs e. (e ≤ length file) × (e ≡ first + length bs)) (some file n at first)
    unfolding some
    part-inside n at first h k =
        tells-check (leb n (length (drop first file))) 1 at _ (fault file most fits 1 refl h) (λ t.
        let b = leb-true n (length (drop first file)) t in
        of_read (omega (arith, length-drop first file), ap (λ (m : ℕ). first + m) (sym (length-take-le n (drop first file) b))))

    entry_inside : (at : ℕ) → at ≤ length file → Inside file most fits (reader_at name_of file at)
    unfolding reader_at
    entry_inside at h =
        tells-bind (seven_inside file most fits at h) (λ n first k. tells-check _ 9 at _ (fault file most fits 9 refl h) (λ t.
        tells-bind (part-inside n at first h k) (λ name end g. tells-bind (judge_inside first name (name_of first name) end refl g.1 g.0) (λ t version v.
        tells-bind (little_inside file most fits 4 version version v v) (λ number next e. tells-check _ 12 version _ (fault file most fits 12 refl v) (λ t. of_read e))))))

    readers_inside : (n at : ℕ) → at ≤ length file → Inside file most fits (readers_at name_of file n at)
    unfolding readers_at several
    readers_inside zero at h = of_read h
    readers_inside (suc n) at h = tells-bind (entry_inside at h) (λ a e k. tells-bind (readers_inside n e k) (λ l next g. of_read g))

    lists_inside : (at : ℕ) → at ≤ length file → Inside file most fits (lists_at name_of file at)
    unfolding lists_at
    lists_inside at h =
        tells-bind (seven_inside file most fits at h) (λ n e k. tells-check _ 9 at _ (fault file most fits 9 refl h) (λ t.
        tells-bind (readers_inside n e k) (λ l shared g. tells-bind (seven_inside file most fits shared g) (λ s next f.
        tells-check _ 9 shared _ (fault file most fits 9 refl g) (λ t. of_read f)))))

  file_inside : (most room : ℕ) → (length file ≤ 16777216 → length file ≤ most) → Tells (Placed most) (λ a e. e ≤ length file) (file_at name_of file room)
  unfolding file_at objects_at
  file_inside most room fits =
      tells-bind (header-inside file most fits) (λ h at k. let m = k.1 in
      tells-bind (lists_inside most m at k.0) (λ l first g.
      tells-bind (sequence_inside file most m _ (λ x a used f. walk_inside file most m l.1 l.2 room 32 x a used 0 f) (objects_plan l.2) first 0 g) (λ a e r.
      finished_inside file most m h.0 h.1 l.0 (length l.1) l.2 a e r)))

  -- ---- what a refusal of loading tells

  module _ (words number place : ℕ) (refuses : load_of name_of file words ≡ refusal number place) where
    faulty : (most : ℕ) → (length file ≤ 16777216 → length file ≤ most) → Placed most number place
    unfolding load_of to_load
    faulty most fits = go (file_at name_of file (room_of words)) (file_inside most (room_of words) fits) refuses where
      go : (x : Answer Loaded) → Tells (Placed most) (λ a e. e ≤ length file) x → to_load x ≡ refusal number place → Placed most number place
      go (refused n p) (of_refused f) e =
          let a : n ≡ number = cc in
          let b : p ≡ place = cc in
          rw (← a, ← b) f
      go (read a e) (of_read h) q = differ cc

    -- a refusal has one of these numbers
    pub refusal-number : LoadNumber number
    refusal-number = (faulty 16777216 (λ h. h)).number_is

    -- a refusal's place is inside the file or at its end, and so it fits the 32 bits that the builder's number has for it
    pub refusal-place : (place ≤ length file) × (place ≤ 16777216)
    refusal-place = ((faulty (length file) (λ h. omega arith)).placed, (faulty 16777216 (λ h. h)).placed)

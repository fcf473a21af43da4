-- Laws of what a value begins with: the reader that a type id names, and the walk behind it. Assumes nothing.
use Rattle.std.specs.Prelude.{◌≡◌, Ok, Err, None, Some, Bool, true, false, List, [], ◌∷◌, ◌⊎◌, ltb, leb, get_or, drop}
use Rattle.std.proofs.Math.Path.{refl, subst}
use Rattle.std.proofs.Common.{sym, ap, ◌∙◌, inr, drop_of_length-le, drop-cons}
use Rattle.std.proofs.Math.Logic.{inl}
use Prim.Native.Nat.{ℕ, zero, suc, ◌+◌, ◌*◌, ◌-◌, ◌%◌, ◌≤◌, ◌<◌, ◌^◌}
use native.Mathlib.Omega.{arith}
use Rattle.std.proofs.Math.ListN.{length}
use borrow.Author.Tests.{lt-ltb, le-ltb, ltb-false, leb-true, leb-false}
use Rattle.laws.specs.Small.{differ}
use Rattle.layout.specs.Target.{Target, fixed, char, string, object as anything, texture, texture_2d, sprite_font, page, mesh, enum, nullable, array, list, dictionary}
use Rattle.layout.specs.Slot as L
use Rattle.layout.specs.Slot.{Plan, raw, object}
use Rattle.layout.specs.Fixed.{sizes}
use Rattle.layout.specs.Named.{plain, fixed_kind}
use Rattle.reading.specs.Answer.{Answer, refused, read, bind, check}
use Rattle.reading.specs.Seven.{group, groups, seven_at, seven_next}
use Rattle.reading.specs.Reads.{Small}
use Rattle.numbers.specs.Padded.{past, pad_of}
use Rattle.places.specs.Padding.{id_end, id_pad}
use Rattle.ids.specs.Position.{position_of, type_id}
use Rattle.reading.specs.Rules.{missing, found, invoked, reader, serves, serves-complete, serves-sound}
use Rattle.reading.specs.Walk.{Outcome, by_reader, object_at, value_at, walk}
use Rattle.targets.specs.Code.{code_kind, Stands}
use Rattle.targets.specs.Place.{kind_at, fits_at}
use Rattle.targets.specs.Laws.{kind_is, fits_then, then_fits, of_kind}
use Rattle.readers.specs.declared.Readers.{Readers}
use Rattle.readers.specs.Listed.{Listed}
use Rattle.answers.specs.declared.Rule.{Rule}
use Rattle.answers.specs.declared.Rule.TheVariants.{NoReader}
use Rattle.answers.specs.Refusals.{number_of}
use Rattle.objects.specs.declared.start.Started.TheVariants.{Raw, Plain}
use Rattle.objects.specs.declared.start.Started.TheVariants.{Null as NullValue}
use Rattle.objects.specs.Beginnings.{Starting, refusing, position_in, position_at, Has, ReadBy, Identifies, by, Ided, ObjectStarts, under, Starts}

-- each position is one of a list of 64
pub position_in-list : (file : List ℕ) (at : ℕ) → position_at file at < 64
position_in-list file at = omega arith

-- the first group of seven bits has a number's low seven bits
first_group : (b at : ℕ) (rest : Answer ℕ) {n e : ℕ} (t : Bool) → ltb b 128 ≡ t → group t b at rest ≡ read n e → position_in n ≡ position_in b
unfolding group bind
first_group b at rest {n} true q w = let z : b ≡ n = cc in rw z
first_group b at (refused m p) false q w = differ cc
first_group b at (read m f) {n} false q w =
    let z : b - 128 + 128 * m ≡ n = cc in
    omega (arith, z, ltb-false b 128 q)

-- a type id that is read names the position that its first byte names
pub first_byte : (file : List ℕ) (at : ℕ) {id next : ℕ} → seven_at file at ≡ read id next → position_in id ≡ position_at file at
unfolding seven_at bind check groups
first_byte file at {id} {next} w = there (leb (length file) at) refl where
  read_first : (x : Answer ℕ) → bind x (λ n e. check (ltb n (2 ^ 32)) 8 at (read n e)) ≡ read id next → x ≡ read id next
  read_first (refused m p) v = differ cc
  read_first (read m f) v = checked (ltb m (2 ^ 32)) v where
    checked : (t : Bool) → check t 8 at (read m f) ≡ read id next → read m f ≡ read id next
    checked true u = u
    checked false u = differ cc

  there : (t : Bool) → leb (length file) at ≡ t → position_in id ≡ position_at file at
  there true q =
      let z : groups 5 at at [] ≡ read id next = rw (drop_of_length-le file (leb-true (length file) at q)) at (read_first (groups 5 at at (drop at file)) w) in
      differ cc
  there false q =
      let z = rw (drop-cons file at 0 (leb-false (length file) at q)) at (read_first (groups 5 at at (drop at file)) w) in
      first_group (get_or file at 0) at (groups 4 at (suc at) (drop (suc at) file)) (ltb (get_or file at 0) 128) refl z

-- the reader at the position that the first byte of a type id names is the one that the type id names
pub has_named : {rd : Readers} {count target : ℕ} (file : List ℕ) (at : ℕ) {id next : ℕ} → seven_at file at ≡ read id next → Has rd count (position_at file at) target → Has rd count (position_in id) target
has_named {rd} {count} {target} file at e h = subst (λ (i : ℕ). Has rd count i target) (sym (first_byte file at e)) h

-- reader i of the list
reader_at : (readers : List Target) (i : ℕ) → i < length readers → reader readers (suc i) ≡ invoked (get_or readers i anything)
unfolding reader
reader_at [] i h = absurd (omega arith)
reader_at (t ∷ readers) zero h = refl
reader_at (t ∷ readers) (suc i) h = reader_at readers i (omega arith)

pub no_reader : (readers : List Target) (i : ℕ) → length readers ≤ i → reader readers (suc i) ≡ missing
unfolding reader
no_reader [] i h = refl
no_reader (t ∷ readers) zero h = absurd (omega arith)
no_reader (t ∷ readers) (suc i) h = no_reader readers i (omega arith)

-- 01: "Object and Texture readers are never invoked", all others are
always : (t : Target) → (code_kind t ≡ 14 → ⊥) → (code_kind t ≡ 31 → ⊥) → invoked t ≡ found t
unfolding invoked code_kind
always (fixed k) a b = refl
always char a b = refl
always string a b = refl
always anything a b = absurd (a refl)
always (enum name z) a b = refl
always (nullable t) a b = refl
always (array t) a b = refl
always (list t) a b = refl
always (dictionary t u) a b = refl
always texture a b = absurd (b refl)
always texture_2d a b = refl
always sprite_font a b = refl
always page a b = refl
always (mesh m) a b = refl

-- the reader at place i of a list that the code has
module _ {file codes : List ℕ} {rd : Readers} {count i target : ℕ} (has : Has rd count (position_in (suc i)) target) {readers : List Target} {declared : ℕ} {d : Target} (l : Listed file codes rd readers) (s : Stands file codes declared d) where
  pub beyond-list : count ≤ i → Identifies file codes readers d (suc i) (Err NoReader)
  beyond-list h = inl (refl, omega arith, no_reader readers i (omega (arith, l.counts, has.counts)))

  pub beyond-most : 64 ≤ i → Identifies file codes readers d (suc i) (Err NoReader)
  beyond-most h = inl (refl, omega arith, no_reader readers i (omega (arith, l.few)))

  -- where the list has the reader
  here : i < count → get_or rd.targets i 0 ≡ target
  here h =
      let p : (suc i + 63) % 64 ≡ i = omega (arith, l.counts, l.few, has.counts) in
      rw p at has.at

  pub never_called : {k : ℕ} → i < count → k ≡ kind_at codes target → (k ≡ 14) ⊎ (k ≡ 31) → Identifies file codes readers d (suc i) (Err NoReader)
  unfolding plain fixed_kind sizes invoked
  never_called {k} h q w = inl (refl, omega arith, reader_at readers i g ∙ go w) where
    g : i < length readers
    g = omega (arith, l.counts, has.counts)

    kind : code_kind (get_or readers i anything) ≡ k
    kind = sym (kind_is (l.stands i g)) ∙ ap (kind_at codes) (here h) ∙ sym q

    go : (k ≡ 14) ⊎ (k ≡ 31) → invoked (get_or readers i anything) ≡ missing
    go (inl y) = rw (of_kind (get_or readers i anything) anything 14 (l.stands i g).lawful (kind ∙ y) refl)
    go (inr y) = rw (of_kind (get_or readers i anything) texture 31 (l.stands i g).lawful (kind ∙ y) refl)

  pub called_by : {k : ℕ} → i < count → k ≡ kind_at codes target → (k ≡ 14 → ⊥) → (k ≡ 31 → ⊥)
      → (b : Bool) → fits_at file codes declared target ≡ b → Identifies file codes readers d (suc i) (by b target)
  called_by {k} h q x y b f = go b f where
    g : i < length readers
    g = omega (arith, l.counts, has.counts)

    t : Target
    t = get_or readers i anything

    kind : code_kind t ≡ k
    kind = sym (kind_is (l.stands i g)) ∙ ap (kind_at codes) (here h) ∙ sym q

    there : Stands file codes target t
    there = subst (λ a. Stands file codes a t) (here h) (l.stands i g)

    called : invoked t ≡ found t
    called = always t (λ z. x (sym kind ∙ z)) (λ z. y (sym kind ∙ z))

    named : reader readers (suc i) ≡ found t
    named = reader_at readers i g ∙ called

    serving : (b c : Bool) → fits_at file codes declared target ≡ b → serves d t ≡ c → c ≡ b
    serving true true f c = refl
    serving false false f c = refl
    serving true false f c = absurd (let z : ◌≡◌ {A = Bool} true false = sym (serves-complete (fits_then s there f)) ∙ c in differ cc)
    serving false true f c = absurd (let z : ◌≡◌ {A = Bool} true false = sym (then_fits s there (serves-sound d t c)) ∙ f in differ cc)

    go : (b : Bool) → fits_at file codes declared target ≡ b → Identifies file codes readers d (suc i) (by b target)
    go true f = (omega arith, record { type = t; at = there; named = named; serving = serving true (serves d t) f refl })
    go false f = inr (refl, omega arith, (t, named, serving false (serves d t) f refl))

-- an id and its position
pub null_id : {id : ℕ} → None ≡ position_of id → id ≡ 0
null_id {id = zero} e = refl
null_id {id = suc i} e = differ cc

pub at_id : {id i : ℕ} → Some i ≡ position_of id → id ≡ suc i
at_id {id = zero} e = differ cc
at_id {id = suc j} {i = i} e = let q : i ≡ j = cc in ap suc (sym q)

module _ (file codes : List ℕ) (readers : List Target) (d : Target) (at : ℕ) where
  pub no_number : {n p : ℕ} → seven_at file at ≡ refused n p → ObjectStarts file codes readers (object d) at (refusing n p)
  unfolding value_at bind
  no_number e shared room below used parent = rw e

  module _ (small : Small file) {id next padding : ℕ} (e : seven_at file at ≡ read id next) (q : padding ≡ pad_of (seven_at file at) at) where
    id_ends : (id : ℕ) → 0 < id → Ided file at (past (seven_at file at) at) id padding
    unfolding id_end id_pad
    id_ends zero h = absurd (omega arith)
    id_ends (suc i) h = record { behind = refl; pads = q }

    past_is : past (seven_at file at) at ≡ next
    unfolding past
    past_is = rw e

    pub null_starts : id ≡ 0 → ObjectStarts file codes readers (object d) at (Ok (NullValue next padding))
    unfolding value_at bind object_at
    null_starts z =
        let b = seven_next file small at e in
        record { pads = q; ahead = omega (arith, b.0); inside = b.1; is = λ shared room below used parent. rw (e, z) }

    by_id : (id : ℕ) → 0 < id → (shared room : ℕ) (below : Plan → ℕ → ℕ → Outcome) (used parent : ℕ)
        → object_at file readers shared room below d id at next used parent ≡ by_reader file readers shared room (reader readers id) below d id at next used parent
    unfolding object_at
    by_id zero h shared room below used parent = absurd (omega arith)
    by_id (suc i) h shared room below used parent = refl

    pub unread : {r : Rule} → Identifies file codes readers d id (Err r) → ObjectStarts file codes readers (object d) at (refusing (number_of r) at)
    unfolding value_at bind by_reader check
    unread (inl w) shared room below used parent = rw (e, by_id id w.1 shared room below used parent, w.2, w.0)
    unread (inr w) shared room below used parent = rw (e, by_id id w.1 shared room below used parent, w.2.1, w.2.2, w.0)

    pub read-starts : {place : ℕ} → (0 < id) × ReadBy file codes readers d id place → ObjectStarts file codes readers (object d) at (Ok (Raw place next (type_id id) padding))
    unfolding value_at bind by_reader check
    read-starts w =
        let b = seven_next file small at e in
        record {
          type = w.1.type;
          stands = w.1.at;
          ided = subst (λ f. Ided file at f id padding) past_is (id_ends id w.0);
          ahead = omega (arith, b.0);
          inside = b.1;
          is = λ shared room below used parent. rw (e, by_id id w.0 shared room below used parent, w.1.named, w.1.serving);
        }

module _ (file codes : List ℕ) (readers : List Target) (room : ℕ) (x : L.Slot) (at used : ℕ) where
  pub too_deep : {depth : ℕ} → depth ≡ 0 → Starts file codes readers room depth x at used (refusing 18 at)
  unfolding walk
  too_deep e shared parent = rw e

  walked : (shared depth below parent : ℕ) → depth ≡ suc below → used < room
      → walk file readers shared room depth x at used parent ≡ value_at file readers shared room (under file readers shared room below used) x at used parent
  unfolding walk check
  walked shared depth below parent e h = rw (e, lt-ltb used room h)

  full : (shared depth parent : ℕ) → (depth ≡ 0 → ⊥) → room ≤ used → walk file readers shared room depth x at used parent ≡ refused 19 at
  unfolding walk check
  full shared zero parent z h = absurd (z refl)
  full shared (suc d) parent z h = rw (le-ltb used room h)

  pub no_row : {depth : ℕ} → (depth ≡ 0 → ⊥) → room ≤ used → Starts file codes readers room depth x at used (refusing 19 at)
  no_row {depth} z h shared parent = full shared depth parent z h

  some_depth : (depth : ℕ) → (depth ≡ 0 → ⊥) → (d : ℕ) × (depth ≡ suc d)
  some_depth zero z = absurd (z refl)
  some_depth (suc d) z = (d, refl)

  -- a slot of raw values
  pub raw-starts : {depth place : ℕ} → (depth ≡ 0 → ⊥) → used < room → at ≤ length file → (t : Target) → x ≡ raw t → Stands file codes place t → Starts file codes readers room depth x at used (Ok (Raw place at (type_id 0) 0))
  unfolding value_at id_end id_pad
  raw-starts {depth} z h p t e i =
      let d = some_depth depth z in
      record {
        type = t;
        stands = i;
        ided = record { behind = refl; pads = refl };
        ahead = omega arith;
        inside = p;
        free = h;
        deep = omega (arith, d.1);
        is = λ shared below parent q. walked shared depth below parent q h ∙ rw e;
      }

  -- a slot of objects
  pub object-starts : {depth : ℕ} → (depth ≡ 0 → ⊥) → used < room → (r : Starting) → ObjectStarts file codes readers x at r → Starts file codes readers room depth x at used r
  object-starts {depth} z h (Err e) s =
      let d = some_depth depth z in
      λ shared parent. walked shared depth d.0 parent d.1 h ∙ s shared room (under file readers shared room d.0 used) used parent
  object-starts z h (Ok (Plain p)) s = absurd s
  object-starts {depth} z h (Ok (NullValue next padding)) s =
      let d = some_depth depth z in
      record {
        pads = s.pads;
        ahead = s.ahead;
        inside = s.inside;
        free = h;
        is = λ shared parent. walked shared depth d.0 parent d.1 h ∙ s.is shared room (under file readers shared room d.0 used) used parent;
      }
  object-starts {depth} z h (Ok (Raw place from id padding)) s =
      let d = some_depth depth z in
      record {
        type = s.type;
        stands = s.stands;
        ided = s.ided;
        ahead = s.ahead;
        inside = s.inside;
        free = h;
        deep = omega (arith, d.1);
        is = λ shared below parent q. walked shared depth below parent q h ∙ s.is shared room (under file readers shared room below used) used parent;
      }

-- What one look at an object says. Assumes nothing.
use Rattle.std.specs.Prelude.{◌≡◌, refl, Ok, Option, None, Some, Bool, true, false, ◌&&◌, List, ◌⊎◌, ℕ, zero, suc, ◌+◌, ◌-◌, ◌≤◌, ◌<◌, ◌*◌, ◌^◌, ◌/◌, ◌%◌, leb, length, get_or, take, drop}
use Rattle.std.proofs.Common.{sym, ap, subst, ◌∙◌, inr, arith, add-one, drop-cons, lt-ltb, le-leb, leb-true, leb-false, ne_eqb}
use Rattle.std.proofs.Math.ListN.{get_or-eq_default}
use Rattle.std.proofs.lemmas.Bool.{lt-leb}
use Rattle.layout.specs.Fixed.{sizes}
use Rattle.layout.specs.Number.{between}
use Rattle.layout.specs.Shortest.{shortest, fewest}
use Rattle.reading.specs.Answer.{read, bind, check}
use Rattle.reading.specs.Seven.{group, groups, seven_at}
use Rattle.reading.specs.Fixed.{fixed_at, sized}
use Rattle.reading.specs.Utf8.{utf8s}
use Rattle.numbers.specs.Padded.{pad_of, beside}
use Rattle.ids.specs.Position.{type_id}
use Rattle.targets.specs.Place.{kind_at, same_name, same_code, agree, equal_at, fits_at}
use Rattle.targets.specs.Extent.{no_agree}
use Rattle.leaves.specs.Text.{text_there, text-counted}
use Rattle.heads.specs.declared.nest.Below.TheVariants.{Nothing}
use Rattle.heads.specs.Opens.{headed}
use Rattle.heads.specs.Placed.{bytes_of, row_kind}
use Rattle.heads.specs.Total.{leaf_as, alone_as, kind_as, open_as}
use Rattle.objects.specs.declared.start.Started.TheVariants.{Raw}
use Rattle.objects.specs.declared.start.Started.TheVariants.{Null as NullValue}
use Rattle.objects.specs.Beginnings.{position_at}
use Rattle.objects.specs.Start.{first_byte}
use Rattle.objects.specs.Total.{place_as, reader_as, object_as}
use Rattle.first_values.specs.declared.Choice.{Choice}
use Rattle.first_values.specs.declared.Choice.TheVariants.{All, Texts, Nothing as Nowhere}
use Rattle.first_values.specs.declared.Id.{Id}
use Rattle.first_values.specs.declared.Seen.{Seen}

-- a type id was read, with its padding
abbrev pub Numbered : (file : List ℕ) (at : ℕ) → Option Id → Type 0
Numbered file at None = Unit {0}
Numbered file at (Some r) = (seven_at file at ≡ read r.id r.next) × (pad_of (seven_at file at) at ≡ r.padding)

-- a text whose count is in its shortest form ends at `end`
abbrev pub TextEnds : (file : List ℕ) (at : ℕ) → Option ℕ → Type 0
TextEnds file at None = Unit {0}
TextEnds file at (Some end) = (n : ℕ) × (leaf_as file 13 at ≡ read (n, 0) end)

-- a raw value of the type at a place has no children and ends at `end`
pub record Leaf (file codes : List ℕ) (place at end : ℕ) : Type 0 where
  pub opens : open_as file codes place at ≡ headed end (Nothing 0)
  pub no_object : kind_at codes place ≡ 14 → ⊥
  pub no_texture : kind_at codes place ≡ 31 → ⊥

abbrev pub Ends : (file codes : List ℕ) (place at : ℕ) → Option ℕ → Type 0
Ends file codes place at None = Unit {0}
Ends file codes place at (Some end) = Leaf file codes place at end

-- null
pub record NullSeen (file codes : List ℕ) (count target declared at : ℕ) (s : Seen) : Type 0 where
  pub starts : object_as file codes count target declared at (seven_at file at) ≡ Ok (NullValue s.end s.padding)
  pub kind_is : s.kind ≡ 0
  pub id_is : s.id ≡ 0

-- a value without children
pub record LeafSeen (file codes : List ℕ) (count target declared at : ℕ) (s : Seen) : Type 0 where
  pub place : ℕ
  pub from : ℕ
  pub starts : object_as file codes count target declared at (seven_at file at) ≡ Ok (Raw place from (type_id s.id) s.padding)
  pub opens : open_as file codes place from ≡ headed s.end (Nothing 0)
  pub kind_is : s.kind ≡ row_kind (kind_at codes place)

-- the type at a place has a code that is wanted: every code, a text's, or none
abbrev pub Wanted : (codes : List ℕ) → Choice → (place : ℕ) → Type 0
Wanted codes All place = Unit {0}
Wanted codes Texts place = get_or codes place 0 % 256 ≡ 13
Wanted codes Nowhere place = ⊥

-- where the type at `declared` is declared, every type that has a wanted code may be read
abbrev pub Wants : (file codes : List ℕ) (declared : ℕ) → Choice → Type 0
Wants file codes declared wanted = (place : ℕ) → Wanted codes wanted place → fits_at file codes declared place ≡ true

-- what a look at an object says, where the type of the reader that its type id names is at `target`
abbrev pub Looked : (file codes : List ℕ) (count target declared at : ℕ) → Option Seen → Type 0
Looked file codes count target declared at None = Unit {0}
Looked file codes count target declared at (Some s) = NullSeen file codes count target declared at s ⊎ LeafSeen file codes count target declared at s

-- a number of one byte
pub one_byte : (file : List ℕ) (at : ℕ) → at < length file → get_or file at 0 < 128 → seven_at file at ≡ read (get_or file at 0) (suc at)
unfolding seven_at groups group bind check
one_byte file at h b =
    let p = lt-ltb (get_or file at 0) 128 b in
    let q = lt-ltb (get_or file at 0) (2 ^ 32) (omega (arith, b)) in
    rw (drop-cons file at 0 h, p, q)

-- which is its shortest form
one_unpadded : (n at : ℕ) → n < 128 → pad_of (read n (suc at)) at ≡ 0
unfolding pad_of shortest fewest
one_unpadded n at h = rw (lt-ltb n 128 h) (omega arith)

-- a type id of one byte
pub byte_numbered : (file : List ℕ) (at : ℕ) (r : Id) → at < length file → r.id ≡ get_or file at 0 → r.id < 128 → r.next ≡ at + 1 → r.padding ≡ 0 → Numbered file at (Some r)
byte_numbered file at r h i b n p =
    let e : seven_at file at ≡ read r.id r.next = rw (i, n ∙ add-one at) (one_byte file at h (omega (arith, i, b))) in
    let u : pad_of (read r.id r.next) at ≡ 0 = rw (n ∙ add-one at) (one_unpadded r.id at b) in
    (e, ap (λ y. pad_of y at) e ∙ u ∙ sym p)

-- a text of less than 64 bytes
pub text-short : (file : List ℕ) (at n : ℕ) → at < length file → n ≡ get_or file at 0 → n < 64 → n ≤ length (drop (at + 1) file) → utf8s (take n (drop (at + 1) file)) ≡ true
    → leaf_as file 13 at ≡ read (n, 0) (at + 1 + n)
unfolding leaf_as
text-short file at n h i b l t =
    let e : seven_at file at ≡ read n (at + 1) = rw (i, add-one at) (one_byte file at h (omega (arith, i, b))) in
    let u : pad_of (read n (at + 1)) at ≡ 0 = rw (add-one at) (one_unpadded n at (omega (arith, b))) in
    let q : 0 ≡ pad_of (seven_at file at) at = sym (ap (λ y. pad_of y at) e ∙ u) in
    sym (text_there file at n (at + 1) 0 (le-leb n (length (drop (at + 1) file)) l) t ∙ text-counted file at e q)

-- a text opens as a value without children
pub text-opens : (file codes : List ℕ) (place at n end : ℕ) → place < length codes → kind_at codes place ≡ 13 → leaf_as file 13 at ≡ read (n, 0) end → Leaf file codes place at end
unfolding open_as kind_as
text-opens file codes place at n end i k e =
    record { opens = rw (lt-leb (length codes) place i, k, e); no_object = λ z. omega (arith, k, z); no_texture = λ z. omega (arith, k, z) }

-- a kind that has a size is none that has none
other : (k n : ℕ) → (bytes_of k ≡ 0 → ⊥) → bytes_of n ≡ 0 → k ≡ n → ⊥
other k n h z e = h (ap bytes_of e ∙ z)

-- no kind of a mesh has a size
no_size : (k : ℕ) → 31 ≤ k → k < 60 → bytes_of k ≡ 0
unfolding bytes_of sizes
no_size k a b =
    rw (ne_eqb k 60 (λ e. omega (arith, e)), ne_eqb k 61 (λ e. omega (arith, e)), ne_eqb k 62 (λ e. omega (arith, e)), ne_eqb k 63 (λ e. omega (arith, e)))
    (get_or-eq_default sizes 0 {n = k} (omega (arith, a)))

no_mesh : (k : ℕ) → (bytes_of k ≡ 0 → ⊥) → (a b : Bool) → leb 37 k ≡ a → leb k 40 ≡ b → a && b ≡ false
no_mesh k h true true p q = absurd (h (no_size k (omega (arith, leb-true 37 k p)) (omega (arith, leb-true k 40 q))))
no_mesh k h true false p q = refl
no_mesh k h false b p q = refl

-- a value of a fixed size opens as one without children
pub fixed-opens : (file codes : List ℕ) (place at size end : ℕ) → place < length codes → (bytes_of (kind_at codes place) ≡ 0 → ⊥)
    → sized (fixed_at file (kind_at codes place) (bytes_of (kind_at codes place)) at) ≡ read size end → Leaf file codes place at end
unfolding open_as kind_as leaf_as bytes_of sizes
fixed-opens file codes place at size end i h e =
    let k = kind_at codes place in
    let mesh : between 37 40 k ≡ false = no_mesh k h (leb 37 k) (leb k 40) refl refl in
    let o : open_as file codes place at ≡ alone_as (beside 0 (sized (fixed_at file k (bytes_of k) at))) =
    rw (
      lt-leb (length codes) place i,
      ne_eqb k 14 (other k 14 h refl),
      ne_eqb k 16 (other k 16 h refl),
      ne_eqb k 17 (other k 17 h refl),
      ne_eqb k 18 (other k 18 h refl),
      ne_eqb k 19 (other k 19 h refl),
      ne_eqb k 31 (other k 31 h refl),
      ne_eqb k 32 (other k 32 h refl),
      ne_eqb k 33 (other k 33 h refl),
      ne_eqb k 34 (other k 34 h refl),
      mesh,
      ne_eqb k 12 (other k 12 h refl),
      ne_eqb k 13 (other k 13 h refl),
    ) in
    record { opens = o ∙ ap (λ y. alone_as (beside 0 y)) e; no_object = other k 14 h refl; no_texture = other k 31 h refl }

-- Object is declared: every type may be read
pub wants_all : (file codes : List ℕ) (declared : ℕ) → kind_at codes declared ≡ 14 → Wants file codes declared All
unfolding fits_at
wants_all file codes declared k place w = rw k

-- no code is wanted that none can be
pub wants_none : (file codes : List ℕ) (declared : ℕ) → Wants file codes declared Nowhere
wants_none file codes declared place w = absurd w

-- a code that is not 0 stands in the codes
in_codes : (codes : List ℕ) (place : ℕ) → get_or codes place 0 % 256 ≡ 13 → (b : Bool) → leb (length codes) place ≡ b → place < length codes
in_codes codes place e true p = absurd (omega (arith, e, get_or-eq_default codes 0 {n = place} (leb-true (length codes) place p)))
in_codes codes place e false p = leb-false (length codes) place p

-- String is declared: a text may be read
pub wants_text : (file codes : List ℕ) (declared : ℕ) → get_or codes declared 0 % 256 ≡ 13 → Wants file codes declared Texts
unfolding fits_at kind_at equal_at agree same_code same_name
wants_text file codes declared k place e =
    let i = in_codes codes declared k (leb (length codes) declared) refl in
    let j = in_codes codes place e (leb (length codes) place) refl in
    let kind : get_or codes declared 0 % 64 ≡ 13 = omega (arith, k) in
    let four : get_or codes declared 0 / 64 ≡ 4 * (get_or codes declared 0 / 256) = omega (arith, k) in
    let part : get_or codes declared 0 / 64 / 4 ≡ get_or codes declared 0 / 256 = omega (arith, four) in
    let none : get_or codes declared 0 / 64 % 4 ≡ 0 = omega (arith, four, part) in
    rw (kind, drop-cons codes declared 0 i, drop-cons codes place 0 j, k, e, kind, none) (no_agree file (drop (suc declared) codes) (drop (suc place) codes))

-- null
pub null_seen : (file codes : List ℕ) (count target declared at next : ℕ) (s : Seen) → seven_at file at ≡ read 0 next → pad_of (seven_at file at) at ≡ s.padding → s.end ≡ next → s.kind ≡ 0 → s.id ≡ 0
    → NullSeen file codes count target declared at s
null_seen file codes count target declared at next s e u f k i =
    let v : pad_of (read 0 next) at ≡ s.padding = sym (ap (λ y. pad_of y at) e) ∙ u in
    record { starts = rw (e, v, f); kind_is = k; id_is = i }

-- a value without children, by a reader of the list that is invoked and serves
leaf-seen : (file codes : List ℕ) (count target declared at i next : ℕ) (s : Seen) → fits_at file codes declared target ≡ true → seven_at file at ≡ read (suc i) next → pad_of (seven_at file at) at ≡ s.padding → i < 64 → i < count
    → Leaf file codes target next s.end → s.kind ≡ row_kind (kind_at codes target) → s.id ≡ suc i
    → LeafSeen file codes count target declared at s
unfolding reader_as place_as
leaf-seen file codes count target declared at i next s d e u few c l k n =
    let v : pad_of (read (suc i) next) at ≡ s.padding = sym (ap (λ y. pad_of y at) e) ∙ u in
    let t = kind_at codes target in
    record {
      place = target;
      from = next;
      starts = rw (e, lt-leb count i c, lt-leb 64 i few, ne_eqb t 14 l.no_object, ne_eqb t 31 l.no_texture, d, v, n);
      opens = l.opens;
      kind_is = k;
    }

pos : (n : ℕ) → (n ≡ 0 → ⊥) → 0 < n
pos zero h = absurd (h refl)
pos (suc n) h = omega arith

-- a type id that is no null's
pub looked : (file codes targets : List ℕ) (count declared at id next : ℕ) (s : Seen) → fits_at file codes declared (get_or targets (id - 1) 0) ≡ true → seven_at file at ≡ read id next → pad_of (seven_at file at) at ≡ s.padding
    → (id ≡ 0 → ⊥) → id - 1 < count → id - 1 < 64
    → Leaf file codes (get_or targets (id - 1) 0) next s.end → s.kind ≡ row_kind (kind_at codes (get_or targets (id - 1) 0)) → s.id ≡ id
    → Looked file codes count (get_or targets (position_at file at) 0) declared at (Some s)
looked file codes targets count declared at id next s d e u z c few l k n =
    rw p (inr (leaf-seen file codes count (get_or targets (id - 1) 0) declared at (id - 1) next s d (subst (λ (x : ℕ). seven_at file at ≡ read x next) m e) u few c l k (n ∙ m))) where
      m : id ≡ suc (id - 1)
      m = omega (arith, pos id z)

      p : position_at file at ≡ id - 1
      p = sym (first_byte file at e) ∙ omega (arith, m, few)

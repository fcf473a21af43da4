-- The padding of a text's count, as an opened head tells it. Assumes nothing.
use Rattle.std.specs.Prelude.{◌≡◌, Ok, Err, ℕ, ◌+◌, max, Bool, true, false, cond, List, length, ◌==◌, nat_eq, nat_le}
use Rattle.std.proofs.Math.Path.{refl}
use Rattle.std.proofs.Common.{sym, ap, ◌∙◌, arith}
use borrow.Author.Tests.{eqb-true, ne_eqb, leb-true}
use Rattle.laws.specs.Small.{differ}
use Rattle.layout.specs.Number.{between}
use Rattle.layout.specs.Image.{digits}
use Rattle.reading.specs.Answer.{Answer, refused, read}
use Rattle.reading.specs.Seven.{seven_at}
use Rattle.reading.specs.Little.{little_at}
use Rattle.reading.specs.Utf8.{char_at}
use Rattle.reading.specs.Fixed.{fixed_at, sized}
use Rattle.reading.specs.Heads.{text_at}
use Rattle.numbers.specs.Padded.{pad_of, beside}
use Rattle.places.specs.Places.{count_places}
use Rattle.places.specs.Padding.{padding, with_count, without_count}
use Rattle.targets.specs.Place.{kind_at, place_after}
use Rattle.leaves.specs.Text.{own_size}
use Rattle.heads.specs.declared.slot.Slot.{Slot}
use Rattle.heads.specs.declared.slot.Slot.TheVariants.{Simple, Raw, Object}
use Rattle.heads.specs.declared.nest.Nest.TheVariants.{Mesh}
use Rattle.heads.specs.declared.nest.Below.{Below}
use Rattle.heads.specs.declared.nest.Below.TheVariants.{Nothing, Nested}
use Rattle.heads.specs.declared.nest.Below.TheVariants.{Simple as SimpleRun}
use Rattle.heads.specs.Placed.{bytes_of, row_kind}
use Rattle.heads.specs.declared.open.Opened.{Opened}
use Rattle.heads.specs.Opens.{Headed, headed, refusing, ranged_at}
use Rattle.heads.specs.Total.{raw_as, slot_as, each_as, pairs_as, alone_as, leaf_as, flag_as, list_as, dictionary_as, levels_as, height_as, width_as, image_as, kind_as, open_as}

abbrev pub below_pad : Below → ℕ
below_pad (Nothing p) = p
below_pad (SimpleRun run) = 0
below_pad (Nested nest) = 0

-- if a head was opened, it tells this padding
abbrev Tells : (n : ℕ) → Headed → Type 0
Tells n (Err e) = Unit {0}
Tells n (Ok o) = below_pad o.below ≡ n

each_tells : (s : Slot) (n : ℕ) → below_pad (each_as s n) ≡ 0
each_tells (Simple p) n = refl
each_tells (Raw a) n = refl
each_tells (Object a) n = refl

pairs_tell : (s t : Slot) (n : ℕ) → below_pad (pairs_as s t n) ≡ 0
pairs_tell (Simple p) (Simple q) n = refl
pairs_tell (Simple p) (Raw b) n = refl
pairs_tell (Simple p) (Object b) n = refl
pairs_tell (Raw a) t n = refl
pairs_tell (Object a) t n = refl

tells_if : (n : ℕ) (b : Bool) (x y : Headed) → Tells n x → Tells n y → Tells n (cond b x y)
tells_if n true x y p q = p
tells_if n false x y p q = q

module _ (file codes : List ℕ) where
  flag_tells : (a at : ℕ) (x : Answer ℕ) → Tells 0 (flag_as codes a at x)
  flag_tells a at (refused n p) = tt
  flag_tells a at (read f next) = tells_if 0 (f == 0) _ _ refl (tells_if 0 (f == 1) _ _ (each_tells (raw_as codes a) 1) tt)

  list_tells : (a : ℕ) (x : Answer ℕ) → Tells 0 (list_as codes a x)
  list_tells a (refused n p) = tt
  list_tells a (read n next) = each_tells (slot_as codes a) n

  dictionary_tells : (a b : ℕ) (x : Answer ℕ) → Tells 0 (dictionary_as codes a b x)
  dictionary_tells a b (refused n p) = tt
  dictionary_tells a b (read n next) = pairs_tell (slot_as codes a) (slot_as codes b) n

  levels_tell : (f w h : ℕ) (x : Answer ℕ) → Tells 0 (levels_as f w h x)
  levels_tell f w h (refused n p) = tt
  levels_tell f w h (read n e) = refl

  height_tells : (f w : ℕ) (x : Answer ℕ) → Tells 0 (height_as file f w x)
  height_tells f w (refused n p) = tt
  height_tells f w (read h e) = levels_tell f w h (ranged_at file 1 (digits 32 (max w h)) e)

  width_tells : (f : ℕ) (x : Answer ℕ) → Tells 0 (width_as file f x)
  width_tells f (refused n p) = tt
  width_tells f (read w e) = height_tells f w (ranged_at file 1 4096 e)

  image_tells : (x : Answer ℕ) → Tells 0 (image_as file x)
  image_tells (refused n p) = tt
  image_tells (read f e) = width_tells f (ranged_at file 1 4096 e)

  alone_tells : (n : ℕ) (x : Answer ℕ) → Tells n (alone_as (beside n x))
  alone_tells n (refused m p) = tt
  alone_tells n (read a e) = refl

  module _ (kind a at : ℕ) where
    -- the padding that a value of the kind has
    abbrev pad : ℕ
    pad = padding file (count_places file kind at)

    -- one kind of the list, which is not 13, and those behind it
    other : (k : ℕ) → (k == 13) ≡ false → (x y : Headed) → Tells 0 x → Tells pad y → Tells pad (cond (kind == k) x y)
    other k z x y p q = go (kind == k) refl where
      none : kind ≡ k → 0 ≡ pad
      none e = sym (without_count file kind at (rw e z))

      zero_tells : (x : Headed) → kind ≡ k → Tells 0 x → Tells pad x
      zero_tells (Err x) e t = tt
      zero_tells (Ok o) e t = t ∙ none e

      go : (b : Bool) → (kind == k) ≡ b → Tells pad (cond b x y)
      go true e = zero_tells x (eqb-true kind k e) p
      go false e = q

    leaf_tells : Tells pad (alone_as (leaf_as file kind at))
    unfolding leaf_as
    leaf_tells = go (kind == 12) (kind == 13) refl refl where
      go : (b c : Bool) → (kind == 12) ≡ b → (kind == 13) ≡ c
          → Tells pad (alone_as (cond b (beside 0 (char_at file at)) (cond c (beside (pad_of (seven_at file at) at) (own_size (text_at file at))) (beside 0 (sized (fixed_at file kind (bytes_of kind) at))))))
      go true c e f =
          let k : nat_eq kind 13 ≡ false = rw (eqb-true kind 12 e) in
          rw (without_count file kind at k) (alone_tells 0 (char_at file at))
      go false true e f = rw (with_count file kind at f) (alone_tells (pad_of (seven_at file at) at) (own_size (text_at file at)))
      go false false e f = rw (without_count file kind at f) (alone_tells 0 (sized (fixed_at file kind (bytes_of kind) at)))

    -- a mesh type has no count
    mesh_tells : (b : Bool) → between 37 40 kind ≡ b → Tells pad (cond b (headed at (Nested (Mesh kind))) (alone_as (leaf_as file kind at)))
    mesh_tells true e = sym (without_count file kind at (ne_eqb kind 13 (λ q. let z : between 37 40 13 ≡ true = rw q at e in differ cc)))
    mesh_tells false e = leaf_tells

    kind_tells : Tells pad (kind_as file codes kind a at)
    unfolding kind_as
    kind_tells =
        other 14 refl _ _ tt
        (other 16 refl _ _ (flag_tells a at (little_at file 1 at at))
        (other 17 refl _ _ (list_tells a (little_at file 4 at at))
        (other 18 refl _ _ (list_tells a (little_at file 4 at at))
        (other 19 refl _ _ (dictionary_tells a (place_after codes a) (little_at file 4 at at))
        (other 31 refl _ _ tt
        (other 32 refl _ _ (image_tells (ranged_at file 0 18 at))
        (other 33 refl _ _ refl
        (other 34 refl _ _ refl (mesh_tells (between 37 40 kind) refl)))))))))

  -- the count is a text's alone, whichever of an enum's kinds is asked for
  row_count : (k at : ℕ) → count_places file (row_kind k) at ≡ count_places file k at
  unfolding count_places row_kind
  row_count k at = go (nat_le 60 k) refl where
    go : (b : Bool) → nat_le 60 k ≡ b → count_places file (cond b 15 k) at ≡ count_places file k at
    go true e = let z : nat_eq k 13 ≡ false = ne_eqb k 13 (λ q. omega (arith, leb-true 60 k e)) in rw z
    go false e = refl

  -- a head that was opened tells the padding of its kind's count
  pub open_pads : (t at : ℕ) {e : ℕ} {below : Below} → open_as file codes t at ≡ headed e below → below_pad below ≡ padding file (count_places file (row_kind (kind_at codes t)) at)
  unfolding open_as
  open_pads t at {e} {below} q =
      let k = kind_at codes t in
      rw (row_count k at)
      (told (open_as file codes t at) (tells_if (padding file (count_places file k at)) (nat_le (length codes) t) (refusing 13 at) (kind_as file codes k (t + 1) at) tt (kind_tells k (t + 1) at)) q) where
        told : (o : Headed) → Tells (padding file (count_places file (kind_at codes t) at)) o → o ≡ headed e below → below_pad below ≡ padding file (count_places file (kind_at codes t) at)
        told (Err x) w z = differ cc
        told (Ok o) w z =
            let i : o ≡ record { next = e; below = below } = cc in
            let b : o.below ≡ below = ap (λ (y : Opened). y.below) i in
            rw b at w

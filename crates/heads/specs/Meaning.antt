-- What opening a value means: the head of the type that stands at a place. Assumes nothing.
use Rattle.std.specs.Prelude.{◌≡◌, ℕ, ◌+◌, ◌<◌, ◌≤◌, max, Bool, true, false, cond, List, [], length, replicate, ◌==◌, ◌≢◌, nat_le, slice_index}
use Rattle.std.proofs.Math.Path.{refl}
use Rattle.std.proofs.Common.{◌∙◌, arith}
use borrow.Author.Tests.{eqb-true, eqb-false, ne_eqb, lt-leb, leb-true}
use Rattle.layout.specs.Named.{Lawful}
use Rattle.layout.specs.Target.{Target, fixed, char, string, object as anything, texture, texture_2d, sprite_font, page, index_buffer, vertex_declaration, vertex_buffer, model, mesh, mesh_kind, enum, nullable, array, list, dictionary}
use Rattle.layout.specs.Slot as L
use Rattle.layout.specs.Slot.{raw, slot_of, pairs}
use Rattle.layout.specs.Number.{between}
use Rattle.layout.specs.Image.{digits}
use Rattle.layout.specs.Fixed.{sizes}
use Rattle.reading.specs.Answer.{Answer, refused, read}
use Rattle.reading.specs.Little.{little_at}
use Rattle.reading.specs.Heads.{Opening, head_at}
use Rattle.walked.specs.Leaf.{mute}
use Rattle.targets.specs.Code.{code_kind, Stands}
use Rattle.targets.specs.Place.{place_after}
use Rattle.targets.specs.Word.{fixed-has-size}
use Rattle.targets.specs.Laws.{kind_is, nullable-argument, array-argument, list-argument, dictionary-key, dictionary-value}
use Rattle.leaves.specs.Like.{alike-each, alike-pairs}
use Rattle.heads.specs.declared.slot.Slot.{Slot}
use Rattle.heads.specs.declared.slot.Slot.TheVariants.{Simple, Raw, Object}
use Rattle.heads.specs.declared.nest.Below.TheVariants.{Nothing, Nested}
use Rattle.heads.specs.declared.nest.Nest.TheVariants.{Mesh}
use Rattle.heads.specs.Placed.{SlotIs}
use Rattle.heads.specs.Slots.{slot_is, raw_is}
use Rattle.heads.specs.Plans.{BelowIs}
use Rattle.heads.specs.Opens.{headed, refusing, Opens, Stopping, Leafy, of_fixed, of_enum, of_char, of_string, ranged_at, levels_at, height_at, width_at}
use Rattle.heads.specs.Below.{alone-refused, alone-read, opens-refused, opens-head, flag-refused, flag_zero, flag_one, flag_other, list-refused, list_read, pairs-refused, pairs-read, font_head, page-head, opens-mesh, leaf_stops, leafless, never-leaf, between-leaf, stands-inside}
use Rattle.heads.specs.Images as images
use Rattle.heads.specs.Images.{opens-read, image_fields, ranged_bounds, levels_open, beside-mute, char-leaf, text-leaf, fixed-leaf}
use Rattle.heads.specs.Total.{each_as, pairs_as, raw_as, slot_as, alone_as, leaf_as, flag_as, list_as, dictionary_as, levels_as, height_as, width_as, image_as, kind_as, open_as}

-- n values that stand alike, and n keys and values in turn, stand below
pub each_below : (file codes : List ℕ) (slot : Slot) (n : ℕ) (x : L.Slot) → SlotIs file codes slot x → BelowIs file codes (each_as slot n) (replicate n x)
each_below file codes (Simple p) n x s = (alike-each n s.0, s.1)
each_below file codes (Raw a) n x s = record { slot = x; are = refl; is = s }
each_below file codes (Object a) n x s = record { slot = x; are = refl; is = s }

pub pairs_below : (file codes : List ℕ) (key value : Slot) (n : ℕ) (x y : L.Slot) → SlotIs file codes key x → SlotIs file codes value y
    → BelowIs file codes (pairs_as key value n) (pairs n x y)
pairs_below file codes (Simple p) (Simple q) n x y k v = (alike-pairs n k.0 v.0, (k.1, v.1))
pairs_below file codes (Simple p) (Raw b) n x y k v = record { key = x; value = y; are = refl; key_is = k; value_is = v }
pairs_below file codes (Simple p) (Object b) n x y k v = record { key = x; value = y; are = refl; key_is = k; value_is = v }
pairs_below file codes (Raw a) w n x y k v = record { key = x; value = y; are = refl; key_is = k; value_is = v }
pairs_below file codes (Object a) w n x y k v = record { key = x; value = y; are = refl; key_is = k; value_is = v }

-- a nullable and a list of one type
module _ (file codes : List ℕ) (a at : ℕ) (t : Target) (s : Stands file codes a t) where
  flag_opens : (x : Answer ℕ) → little_at file 1 at at ≡ x → Opens file codes (head_at file (nullable t) at) (flag_as codes a at x)
  flag_opens (refused n p) e = opens-refused file codes _ (flag-refused file at t e)
  flag_opens (read f next) e = go (f == 0) (f == 1) refl refl where
    go : (b c : Bool) → (f == 0) ≡ b → (f == 1) ≡ c
        → Opens file codes (head_at file (nullable t) at) (cond b (headed next (Nothing 0)) (cond c (headed next (each_as (raw_as codes a) 1)) (refusing 15 at)))
    go true c p q = opens-head file codes _ [] (Nothing 0) (flag_zero file at t e (eqb-true f 0 p)) refl
    go false true p q = opens-head file codes _ _ _ (flag_one file at t e (eqb-true f 1 q)) (each_below file codes (raw_as codes a) 1 (raw t) (raw_is t s))
    go false false p q = opens-refused file codes _ (flag_other file at t e (eqb-false f 0 p) (eqb-false f 1 q))

  list_opens : (x : Answer ℕ) → little_at file 4 at at ≡ x → Opens file codes (head_at file (list t) at) (list_as codes a x)
  list_opens (refused n p) e = opens-refused file codes _ (list-refused file at t e)
  list_opens (read n next) e = opens-head file codes _ _ _ (list_read file at t e) (each_below file codes (slot_as codes a) n (slot_of t) (slot_is t s))

-- a dictionary of two types
module _ (file codes : List ℕ) (a b at : ℕ) (t u : Target) (s : Stands file codes a t) (v : Stands file codes b u) where
  dictionary_opens : (x : Answer ℕ) → little_at file 4 at at ≡ x → Opens file codes (head_at file (dictionary t u) at) (dictionary_as codes a b x)
  dictionary_opens (refused n p) e = opens-refused file codes _ (pairs-refused file at t u e)
  dictionary_opens (read n next) e =
      opens-head file codes _ _ _ (pairs-read file at t u e) (pairs_below file codes (slot_as codes a) (slot_as codes b) n (slot_of t) (slot_of u) (slot_is t s) (slot_is u v))

-- an image, by its four fields
module _ (file codes : List ℕ) where
  levels_opens : (f w h at : ℕ) → f ≤ 18 → 1 ≤ w → w ≤ 4096 → 1 ≤ h → h ≤ 4096 → (x : Answer ℕ) → ranged_at file 1 (digits 32 (max w h)) at ≡ x
      → Opens file codes (levels_at file f w h at) (levels_as f w h x)
  unfolding levels_at
  levels_opens f w h at a b c d g (refused n p) q = images.opens-refused file codes _ q
  levels_opens f w h at a b c d g (read n e) q = levels_open file codes f w h at n e a b c d g q

  height_opens : (f w at : ℕ) → f ≤ 18 → 1 ≤ w → w ≤ 4096 → (x : Answer ℕ) → ranged_at file 1 4096 at ≡ x → Opens file codes (height_at file f w at) (height_as file f w x)
  unfolding height_at
  height_opens f w at a b c (refused n p) q = images.opens-refused file codes (λ h e. levels_at file f w h e) q
  height_opens f w at a b c (read h e) q =
      let z = ranged_bounds file 1 4096 at q in
      opens-read file codes (λ i d. levels_at file f w i d) _ q (levels_opens f w h e a b c z.0 z.1 (ranged_at file 1 (digits 32 (max w h)) e) refl)

  width_opens : (f at : ℕ) → f ≤ 18 → (x : Answer ℕ) → ranged_at file 1 4096 at ≡ x → Opens file codes (width_at file f at) (width_as file f x)
  unfolding width_at
  width_opens f at a (refused n p) q = images.opens-refused file codes (λ w e. height_at file f w e) q
  width_opens f at a (read w e) q =
      let z = ranged_bounds file 1 4096 at q in
      opens-read file codes (λ i d. height_at file f i d) _ q (height_opens f w e a z.0 z.1 (ranged_at file 1 4096 e) refl)

  image_opens : (at : ℕ) (x : Answer ℕ) → ranged_at file 0 18 at ≡ x → Opens file codes (head_at file texture_2d at) (image_as file x)
  image_opens at (refused n p) q = rw (image_fields file at) (images.opens-refused file codes (λ f e. width_at file f e) q)
  image_opens at (read f e) q =
      rw (image_fields file at) (opens-read file codes (λ i d. width_at file i d) _ q (width_opens f e (ranged_bounds file 0 18 at q).1 (ranged_at file 1 4096 e) refl))

-- a kind that none of the first nine tests takes
pub past_tests : (file codes : List ℕ) (k a at : ℕ) → (k ≢ 14) → (k ≢ 16) → (k ≢ 17) → (k ≢ 18) → (k ≢ 19) → (k ≢ 31) → (k ≢ 32) → (k ≢ 33) → (k ≢ 34)
    → kind_as file codes k a at ≡ cond (between 37 40 k) (headed at (Nested (Mesh k))) (alone_as (leaf_as file k at))
unfolding kind_as
past_tests file codes k a at n14 n16 n17 n18 n19 n31 n32 n33 n34 =
    rw (ne_eqb k 14 n14, ne_eqb k 16 n16, ne_eqb k 17 n17, ne_eqb k 18 n18, ne_eqb k 19 n19, ne_eqb k 31 n31, ne_eqb k 32 n32, ne_eqb k 33 n33, ne_eqb k 34 n34)

-- a value without children
module _ (file codes : List ℕ) (at : ℕ) where
  alone_opens : (x : Answer Opening) (y : Answer (ℕ × ℕ)) → mute y ≡ mute x → Stopping x → Opens file codes x (alone_as y)
  unfolding mute
  alone_opens x (refused n p) e s = alone-refused file codes x e
  alone_opens x (read a next) e s = alone-read file codes x a.1 e s

  other_leaf : (t : Target) → Leafy t → (code_kind t ≢ 12) → (code_kind t ≢ 13) → mute (leaf_as file (code_kind t) at) ≡ mute (head_at file t at)
  unfolding leaf_as
  other_leaf t l c d = rw (ne_eqb _ 12 c, ne_eqb _ 13 d) (beside-mute 0 _ ∙ fixed-leaf file at t (code_kind t) _ l refl refl c d)

  leaf_as_lem : (t : Target) → Leafy t → mute (leaf_as file (code_kind t) at) ≡ mute (head_at file t at)
  unfolding leaf_as
  leaf_as_lem t l = go (code_kind t == 12) (code_kind t == 13) refl refl where
    go : (b c : Bool) → (code_kind t == 12) ≡ b → (code_kind t == 13) ≡ c → mute (leaf_as file (code_kind t) at) ≡ mute (head_at file t at)
    go true c p q = rw p (beside-mute 0 _ ∙ char-leaf file at t l (eqb-true _ 12 p))
    go false true p q = rw (p, q) (beside-mute _ _ ∙ text-leaf file at t l (eqb-true _ 13 q))
    go false false p q = other_leaf t l (eqb-false _ 12 p) (eqb-false _ 13 q)

  no_mesh : (t : Target) → Leafy t → between 37 40 (code_kind t) ≡ false
  no_mesh t l = go (nat_le 37 (code_kind t)) (nat_le (code_kind t) 40) refl refl where
    go : (b c : Bool) → nat_le 37 (code_kind t) ≡ b → nat_le (code_kind t) 40 ≡ c → between 37 40 (code_kind t) ≡ false
    go true true p q = absurd (between-leaf refl (leb-true 37 (code_kind t) p) (omega (arith, leb-true (code_kind t) 40 q)) l)
    go true false p q = rw (p, q)
    go false c p q = rw p

  leaf_opens : (a : ℕ) (t : Target) → Leafy t → Opens file codes (head_at file t at) (kind_as file codes (code_kind t) a at)
  unfolding sizes
  leaf_opens a t l =
      let never : (n : ℕ) → slice_index sizes n ≡ 0 → 15 < n → n < 60 → code_kind t ≡ n → ⊥ = λ n z h b e. leafless n z h b e l in
      rw (
        past_tests file codes (code_kind t) a at (λ e. never-leaf e l) (never 16 refl (omega arith) (omega arith)) (never 17 refl (omega arith) (omega arith)) (never 18 refl (omega arith) (omega arith))
            (never 19 refl (omega arith) (omega arith)) (never 31 refl (omega arith) (omega arith)) (never 32 refl (omega arith) (omega arith)) (never 33 refl (omega arith) (omega arith))
            (never 34 refl (omega arith) (omega arith)),
        no_mesh t l,
      )
      (alone_opens (head_at file t at) (leaf_as file (code_kind t) at) (leaf_as_lem t l) (leaf_stops file at l))

-- the head of the type that stands at a place
module _ (file codes : List ℕ) (t at : ℕ) where
  by_type : (x : Target) → Stands file codes t x → Opens file codes (head_at file x at) (kind_as file codes (code_kind x) (t + 1) at)
  unfolding kind_as code_kind head_at mesh_kind Lawful
  by_type (fixed k) s = leaf_opens file codes at (t + 1) (fixed k) (of_fixed (fixed-has-size k s.lawful))
  by_type char s = leaf_opens file codes at (t + 1) char of_char
  by_type string s = leaf_opens file codes at (t + 1) string of_string
  by_type anything s = refl
  by_type (enum name z) s = leaf_opens file codes at (t + 1) (enum name z) (of_enum s.lawful)
  by_type (nullable u) s = flag_opens file codes (t + 1) at u (nullable-argument s) (little_at file 1 at at) refl
  by_type (array u) s = list_opens file codes (t + 1) at u (array-argument s) (little_at file 4 at at) refl
  by_type (list u) s = list_opens file codes (t + 1) at u (list-argument s) (little_at file 4 at at) refl
  by_type (dictionary u v) s = dictionary_opens file codes (t + 1) (place_after codes (t + 1)) at u v (dictionary-key s) (dictionary-value s) (little_at file 4 at at) refl
  by_type texture s = refl
  by_type texture_2d s = image_opens file codes at (ranged_at file 0 18 at) refl
  by_type sprite_font s = opens-head file codes _ _ _ (font_head file at) refl
  by_type page s = opens-head file codes _ _ _ (page-head file at) refl
  by_type (mesh index_buffer) s = opens-mesh file codes index_buffer at
  by_type (mesh vertex_declaration) s = opens-mesh file codes vertex_declaration at
  by_type (mesh vertex_buffer) s = opens-mesh file codes vertex_buffer at
  by_type (mesh model) s = opens-mesh file codes model at

  -- what `open` answers is the head of the type that stands at its place
  pub opens_as : (x : Target) → Stands file codes t x → Opens file codes (head_at file x at) (open_as file codes t at)
  unfolding open_as
  opens_as x s = rw (lt-leb (length codes) t (stands-inside s), kind_is s) (by_type x s)

-- Laws of opening values with children. Assumes nothing.
use Rattle.std.specs.Prelude.{◌≡◌, ℕ, zero, suc, ◌+◌, ◌-◌, ◌*◌, ◌<◌, ◌≤◌, Bool, true, false, ◌&&◌, leb, ◌⊎◌, List, [], ◌∷◌, length, drop, replicate, ◌≢◌, nat_le, nat_lt, slice_index, slice_index_or, refl}
use Rattle.std.proofs.Common.{sym, ap, ◌∙◌, inl, inr, length-drop, length-append, drop-cons, leb-true}
use native.Mathlib.Omega.{arith}
use Rattle.std.proofs.Math.ListN.{get_or-eq_default}
use Rattle.std.proofs.lemmas.Bool.{lt-leb}
use Rattle.laws.specs.Small.{differ}
use Rattle.layout.specs.Target.{Target, fixed, char, string, object as anything, texture, texture_2d, sprite_font, page, Mesh, mesh, mesh_kind, enum, nullable, array, list, dictionary}
use Rattle.layout.specs.Slot as L
use Rattle.layout.specs.Slot.{stop, each, raw, slot_of, pairs, font_slots, page_slots}
use Rattle.reading.specs.Answer.{Answer, refused, read, bind, check}
use Rattle.reading.specs.Reads.{some, field}
use Rattle.reading.specs.Little.{little_at}
use Rattle.reading.specs.Fixed.{is_boolean}
use Rattle.reading.specs.Heads.{Opening, head_at, count_at, flag_at, flag_plan, always}
use Rattle.walked.specs.Leaf.{mute}
use Rattle.heads.specs.declared.nest.Below.{Below}
use Rattle.heads.specs.declared.nest.Below.TheVariants.{Nothing, Nested}
use Rattle.heads.specs.declared.nest.Nest.TheVariants.{Mesh as Nest-mesh}
use Rattle.heads.specs.Plans.{BelowIs}
use Rattle.heads.specs.Nests.{below-plan, mesh_nest}
use Rattle.layout.specs.Fixed.{sizes}
use Rattle.layout.specs.Number.{value_of, between}
use Rattle.reading.specs.Seven.{seven_at}
use Rattle.reading.specs.Utf8.{utf8s, char_at}
use Rattle.reading.specs.Fixed.{fixed_at}
use Rattle.reading.specs.Heads.{whole, own_at, fixed_head_at, text_at}
use Rattle.targets.specs.Word.{enum_kind_lem}
use Rattle.targets.specs.Code.{code_kind, code_size, Stands}
use Rattle.targets.specs.Laws.{size_is}
use Rattle.heads.specs.Opens.{headed, refusing, Opens, Stopping, Leafy, of_fixed, of_enum, of_char, of_string}

pub alone-refused : (file codes : List ℕ) (x : Answer Opening) {n p : ℕ} → refused n p ≡ mute x → Opens file codes x (refusing n p)
unfolding mute
alone-refused file codes (refused m q) {n} {p} e =
    let e₁ : n ≡ m = cc in
    let e₂ : p ≡ q = cc in
    rw (e₁, e₂)
alone-refused file codes (read o e') e = differ cc

pub alone-read : (file codes : List ℕ) (x : Answer Opening) (padding : ℕ) {e : ℕ} → read tt e ≡ mute x → Stopping x → Opens file codes x (headed e (Nothing padding))
unfolding mute each
alone-read file codes (refused m q) padding q' s = differ cc
alone-read file codes (read o f) padding {e} q s =
    let e₁ : e ≡ f = cc in
    rw e₁ (record { below = Nothing padding; is = refl; goes = s o f refl })

-- an answer that is known
pub opens-refused : (file codes : List ℕ) (x : Answer Opening) {n p : ℕ} → x ≡ refused n p → Opens file codes x (refusing n p)
opens-refused file codes x e = rw e refl

pub opens-head : (file codes : List ℕ) (x : Answer Opening) {own : List ℕ} (slots : List L.Slot) {e : ℕ} (below : Below) → x ≡ read (own, each slots) e → BelowIs file codes below slots → Opens file codes x (headed e below)
opens-head file codes x {own} slots {e} below q b = rw q (record { below = below; is = refl; goes = below-plan file codes below slots b })

module _ (file : List ℕ) (at : ℕ) where
  count-refused : (slots : ℕ → List L.Slot) {n p : ℕ} → little_at file 4 at at ≡ refused n p → count_at file slots at ≡ refused n p
  unfolding count_at field bind
  count-refused slots e = rw e

  count-read : (slots : ℕ → List L.Slot) {n e : ℕ} → little_at file 4 at at ≡ read n e → count_at file slots at ≡ read ([], each (slots n)) e
  unfolding count_at field bind check always
  count-read slots e = rw e

  pub list-refused : (t : Target) {n p : ℕ} → little_at file 4 at at ≡ refused n p → head_at file (list t) at ≡ refused n p
  unfolding head_at
  list-refused t e = count-refused (λ n. replicate n (slot_of t)) e

  pub list_read : (t : Target) {n e : ℕ} → little_at file 4 at at ≡ read n e → head_at file (list t) at ≡ read ([], each (replicate n (slot_of t))) e
  unfolding head_at
  list_read t e = count-read (λ n. replicate n (slot_of t)) e

  pub pairs-refused : (t u : Target) {n p : ℕ} → little_at file 4 at at ≡ refused n p → head_at file (dictionary t u) at ≡ refused n p
  unfolding head_at
  pairs-refused t u e = count-refused (λ n. pairs n (slot_of t) (slot_of u)) e

  pub pairs-read : (t u : Target) {n e : ℕ} → little_at file 4 at at ≡ read n e → head_at file (dictionary t u) at ≡ read ([], each (pairs n (slot_of t) (slot_of u))) e
  unfolding head_at
  pairs-read t u e = count-read (λ n. pairs n (slot_of t) (slot_of u)) e

  -- one byte: missing, or there
  one_byte : leb 1 (length (drop at file)) ≡ true → drop at file ≡ slice_index file at ∷ drop (suc at) file
  one_byte t = drop-cons file at 0 (omega (arith, leb-true 1 (length (drop at file)) t, length-drop at file))

  -- what the head and the number say alike
  data Flag (t : Target) : Type 0 where
    absent : head_at file (nullable t) at ≡ refused 1 at → little_at file 1 at at ≡ refused 1 at → Flag t
    present : head_at file (nullable t) at ≡ check (is_boolean (slice_index file at ∷ [])) 15 at (read (slice_index file at ∷ [], flag_plan t (slice_index file at ∷ [])) (at + 1))
        → little_at file 1 at at ≡ read (slice_index file at) (at + 1) → Flag t

  flag_of : (t : Target) (b : Bool) → nat_le 1 (length (drop at file)) ≡ b
      → Flag t
  unfolding head_at flag_at field some bind check little_at value_of
  flag_of t false e = absent (rw e) (rw e)
  flag_of t true e =
      let d = one_byte e in
      let z : slice_index_or file at 0 + 256 * 0 ≡ slice_index_or file at 0 = omega arith in
      present (rw (e, d)) (rw (e, d, z))

  pub flag-refused : (t : Target) {n p : ℕ} → little_at file 1 at at ≡ refused n p → head_at file (nullable t) at ≡ refused n p
  flag-refused t {n} {p} q = go (flag_of t (nat_le 1 (length (drop at file))) refl) where
    go : Flag t → head_at file (nullable t) at ≡ refused n p
    go (absent h l) =
        let e : ◌≡◌ {A = Answer ℕ} (refused 1 at) (refused n p) = sym l ∙ q in
        let e₁ : 1 ≡ n = cc in
        let e₂ : at ≡ p = cc in
        rw (← e₁, ← e₂) h
    go (present h l) = differ cc

  flag_read : (t : Target) {b e : ℕ} → little_at file 1 at at ≡ read b e → head_at file (nullable t) at ≡ check (is_boolean (b ∷ [])) 15 at (read (b ∷ [], flag_plan t (b ∷ [])) e)
  flag_read t {b} {e} q = go (flag_of t (nat_le 1 (length (drop at file))) refl) where
    go : Flag t → head_at file (nullable t) at ≡ check (is_boolean (b ∷ [])) 15 at (read (b ∷ [], flag_plan t (b ∷ [])) e)
    go (absent h l) = differ cc
    go (present h l) =
        let p : ◌≡◌ {A = Answer ℕ} (read (slice_index file at) (at + 1)) (read b e) = sym l ∙ q in
        let e₁ : slice_index_or file at 0 ≡ b = cc in
        let e₂ : at + 1 ≡ e = cc in
        rw (← e₁, ← e₂) h

  pub flag_zero : (t : Target) {b e : ℕ} → little_at file 1 at at ≡ read b e → b ≡ 0 → head_at file (nullable t) at ≡ read (0 ∷ [], each []) e
  unfolding check is_boolean flag_plan each
  flag_zero t q z = let q' = rw z at q in flag_read t q'

  pub flag_one : (t : Target) {b e : ℕ} → little_at file 1 at at ≡ read b e → b ≡ 1 → head_at file (nullable t) at ≡ read (1 ∷ [], each (replicate 1 (raw t))) e
  unfolding check is_boolean flag_plan each
  flag_one t q z = let q' = rw z at q in flag_read t q'

  pub flag_other : (t : Target) {b e : ℕ} → little_at file 1 at at ≡ read b e → (b ≢ 0) → (b ≢ 1) → head_at file (nullable t) at ≡ refused 15 at
  unfolding check is_boolean
  flag_other t {b} q z o = flag_read t q ∙ rw (lt-leb b 1 (more b z o)) where
    more : (b : ℕ) → (b ≢ 0) → (b ≢ 1) → 1 < b
    more zero z o = absurd (z refl)
    more (suc zero) z o = absurd (o refl)
    more (suc (suc b)) z o = omega arith

-- nothing stands below a leaf
whole_stops : (file : List ℕ) (r : Answer (List ℕ)) → Stopping (whole file r)
unfolding whole bind
whole_stops file (refused n p) o e q = differ cc
whole_stops file (read own f) o e q =
    let w : (own, stop) ≡ o = cc in
    ap (λ (x : Opening). x.1) (sym w)

check_stops : (b : Bool) (n p : ℕ) (x : Answer Opening) → Stopping x → Stopping (check b n p x)
unfolding check
check_stops true n p x s o e q = s o e q
check_stops false n p x s o e q = differ cc

field_stops : (file : List ℕ) (r : Answer (List ℕ)) (place : ℕ) → Stopping (bind r (λ a e. check (utf8s a) 15 place (read (a, stop) e)))
unfolding bind
field_stops file (refused n p) place o e q = differ cc
field_stops file (read a f) place o e q = check_stops (utf8s a) 15 place (read (a, stop) f) (λ o' e' q'. let w : (a, stop) ≡ o' = cc in ap (λ (x : Opening). x.1) (sym w)) o e q

text_stops : (file : List ℕ) (at : ℕ) (r : Answer ℕ) → Stopping (bind r (λ n e. field file (some file n at) utf8s (λ own. (own, stop)) at e))
unfolding bind field
text_stops file at (refused n p) o e q = differ cc
text_stops file at (read n f) o e q = field_stops file (some file n at f) at o e q

pub leaf_stops : (file : List ℕ) (at : ℕ) {t : Target} → Leafy t → Stopping (head_at file t at)
unfolding head_at fixed_head_at text_at
leaf_stops file at (of_fixed {k = k} s) = check_stops (nat_lt 0 (slice_index sizes k)) 15 at _ (whole_stops file (fixed_at file k (slice_index sizes k) at))
leaf_stops file at (of_enum {z = z} s) = whole_stops file (some file z at at)
leaf_stops file at of_char = whole_stops file (own_at file (char_at file) at)
leaf_stops file at of_string = text_stops file at (seven_at file at)

-- the fields of a mesh type
pub opens-mesh : (file codes : List ℕ) (m : Mesh) (at : ℕ) → Opens file codes (head_at file (mesh m) at) (headed at (Nested (Nest-mesh (mesh_kind m))))
unfolding head_at
opens-mesh file codes m at = record { below = Nested (Nest-mesh (mesh_kind m)); is = refl; goes = mesh_nest file codes m }

pub font_head : (file : List ℕ) (at : ℕ) → head_at file sprite_font at ≡ read ([], each font_slots) at
unfolding head_at
font_head file at = refl

pub page-head : (file : List ℕ) (at : ℕ) → head_at file page at ≡ read ([], each page_slots) at
unfolding head_at
page-head file at = refl

-- a leaf's kind: one whose size 01 fixes, an enum's, a character's or a text's
leaf_kind_lem : {x : Target} (n : ℕ) → code_kind x ≡ n → n < 60 → (n ≢ 12) → (n ≢ 13) → slice_index sizes n ≡ 0 → Leafy x → ⊥
unfolding code_kind
leaf_kind_lem n e h c t z (of_fixed {k = k} s) = let s' = rw e at s in omega (arith, s', z)
leaf_kind_lem n e h c t z (of_enum {z = y} s) = omega (arith, e, enum_kind_lem y s)
leaf_kind_lem n e h c t z of_char = c (sym e)
leaf_kind_lem n e h c t z of_string = t (sym e)

-- a kind whose values have children is no leaf's
pub leafless : {x : Target} (n : ℕ) → slice_index sizes n ≡ 0 → 15 < n → n < 60 → code_kind x ≡ n → Leafy x → ⊥
leafless n z h b e l = leaf_kind_lem n e b (λ q. omega arith) (λ q. omega arith) z l

-- nor is Object's
pub never-leaf : {x : Target} → code_kind x ≡ 14 → Leafy x → ⊥
unfolding sizes
never-leaf e l = leaf_kind_lem 14 e (omega arith) (λ q. omega arith) (λ q. omega arith) refl l

-- nor is a mesh type's
pub between-leaf : {x : Target} {n : ℕ} → code_kind x ≡ n → 37 ≤ n → n < 41 → Leafy x → ⊥
unfolding sizes
between-leaf {x} {n} e a b l = leaf_kind_lem n e (omega arith) (λ q. omega arith) (λ q. omega arith) (get_or-eq_default sizes 0 {n = n} (omega arith)) l

-- a kind before or behind those of mesh types, 37 to 40, is none of theirs
pub outside : (n : ℕ) {A B : Type 0} → A ⊎ B → (A → n < 37) → (B → 41 ≤ n) → between 37 40 n ≡ false
outside n (inl a) f g = rw (lt-leb 37 n (f a))
outside n (inr b) f g = rw (lt-leb n 40 (omega (arith, g b))) (last (nat_le 37 n)) where
  last : (b : Bool) → (b && false) ≡ false
  last true = refl
  last false = refl

-- a type stands inside the codes
size-some : (t : Target) → 0 < code_size t
unfolding code_size
size-some (fixed k) = omega arith
size-some char = omega arith
size-some string = omega arith
size-some anything = omega arith
size-some (enum name z) = omega arith
size-some (nullable t) = omega arith
size-some (array t) = omega arith
size-some (list t) = omega arith
size-some (dictionary k v) = omega arith
size-some texture = omega arith
size-some texture_2d = omega arith
size-some sprite_font = omega arith
size-some page = omega arith
size-some (mesh m) = omega arith

pub stands-inside : {file codes : List ℕ} {place : ℕ} {t : Target} → Stands file codes place t → place < length codes
stands-inside {file} {codes} {place} {t} s =
    let l : length codes - place ≡ length s.words + length s.rest = sym (length-drop place codes) ∙ ap length s.there ∙ length-append s.words s.rest in
    omega (arith, size-some t, size_is s)

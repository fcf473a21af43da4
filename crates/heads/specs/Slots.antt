-- Laws of slots in code: the slot by the kind of a type is the layout's. Assumes nothing.
use Rattle.std.specs.Prelude.{◌≡◌, ℕ, ◌<◌, Bool, true, false, cond, List, ◌≢◌, nat_le, slice_index, slice_index_or, refl}
use Rattle.std.proofs.Common.{sym, ◌∙◌, inl, inr, arith}
use borrow.Author.Tests.{eqb-false, ne_eqb, le-leb, lt-leb}
use Rattle.layout.specs.Named.{Lawful as LawfulTarget}
use Rattle.layout.specs.Target.{Target, fixed, char, string, object as anything, texture, texture_2d, sprite_font, page, index_buffer, vertex_declaration, vertex_buffer, model, mesh, mesh_kind, enum, nullable, array, list, dictionary, kind_of, is_value}
use Rattle.layout.specs.Fixed.{sizes}
use Rattle.layout.specs.EnumList.{EnumSize}
use Rattle.layout.specs.Slot.{raw, slot_of, raw_or_object}
use Rattle.names.specs.Kind.{enum_kind}
use Rattle.names.specs.EntryLaws.{size-some}
use Rattle.targets.specs.Word.{fixed-has-size, fixed-small, enum_kind_lem}
use Rattle.targets.specs.Code.{Stands, code_kind}
use Rattle.targets.specs.Place.{kind_at}
use Rattle.targets.specs.Laws.{kind_is, kind_of-code}
use Rattle.leaves.specs.declared.plain.Plain.TheVariants.{Fixed, Enum}
use Rattle.leaves.specs.Plain.{plain_slot, Lawful}
use Rattle.leaves.specs.Like.{Like, same, enums}
use Rattle.heads.specs.Placed.{SlotIs, bytes_of, plain_of, raw_of, slot_by, row_kind}

-- the sorts of types, by the kinds of their codes: characters, nullables, other values of a size, and what stands as an object
data Sort : Target → Type 0 where
  a_char : Sort char
  a_nullable : {t : Target} → Sort (nullable t)
  a_plain : {t : Target} → (code_kind t ≢ 12) → (code_kind t ≢ 16) → (bytes_of (code_kind t) ≢ 0) → is_value t ≡ true
      → Like (raw t) (plain_slot (plain_of (code_kind t))) → Lawful (plain_of (code_kind t)) → Sort t
  a_boxed : {t : Target} → (code_kind t ≢ 12) → (code_kind t ≢ 16) → bytes_of (code_kind t) ≡ 0 → is_value t ≡ false → Sort t

-- a kind below 60 has the bytes that 01 says
pub bytes_below : (k : ℕ) → k < 60 → bytes_of k ≡ slice_index sizes k
unfolding bytes_of
bytes_below k h =
    rw (ne_eqb k 60 (λ e. omega arith), ne_eqb k 61 (λ e. omega arith), ne_eqb k 62 (λ e. omega arith), ne_eqb k 63 (λ e. omega arith))

fixed_plain : (k : ℕ) → k < 60 → plain_of k ≡ Fixed k (slice_index sizes k)
unfolding plain_of
fixed_plain k h = rw (lt-leb 60 k h, bytes_below k h)

-- a kind with a size is not this one, which has none
sized_other : (k j : ℕ) → 0 < slice_index sizes k → slice_index sizes j ≡ 0 → k ≢ j
sized_other k j h z e = let q : slice_index_or sizes k 0 ≡ 0 = rw e z in omega arith

fixed_sort : (k : ℕ) → LawfulTarget (fixed k) → Sort (fixed k)
unfolding LawfulTarget code_kind is_value sizes
fixed_sort k l =
    let h = fixed-small k l in
    let z = fixed-has-size k l in
    let b = bytes_below k h in
    let p = fixed_plain k h in
    a_plain {t = fixed k} (sized_other k 12 z refl) (sized_other k 16 z refl) (λ e. let q : bytes_of k ≡ 0 = e in omega arith) refl (rw p same) (rw p (refl, z))

-- an enum's bytes are its size
pub enum-bytes : (z : ℕ) → EnumSize z → bytes_of (enum_kind z) ≡ z
unfolding EnumSize enum_kind bytes_of
enum-bytes z (inl e) = rw e
enum-bytes z (inr (inl e)) = rw e
enum-bytes z (inr (inr (inl e))) = rw e
enum-bytes z (inr (inr (inr e))) = rw e

enum_plain : (z : ℕ) → EnumSize z → plain_of (enum_kind z) ≡ Enum z
unfolding plain_of
enum_plain z l = rw (le-leb 60 (enum_kind z) (enum_kind_lem z l).0, enum-bytes z l)

enum_sort : (name : List ℕ) (z : ℕ) → LawfulTarget (enum name z) → Sort (enum name z)
unfolding LawfulTarget code_kind is_value
enum_sort name z l =
    let k = enum_kind_lem z l in
    let p = enum_plain z l in
    a_plain {t = enum name z} (λ q. let e : enum_kind z ≡ 12 = q in omega arith) (λ q. let e : enum_kind z ≡ 16 = q in omega arith) (λ q. size-some z l (sym (enum-bytes z l) ∙ q)) refl (rw p enums) (rw p tt)

sort_of : (t : Target) → LawfulTarget t → Sort t
unfolding code_kind mesh_kind is_value bytes_of sizes
sort_of (fixed k) l = fixed_sort k l
sort_of char l = a_char
sort_of string l = a_boxed {t = string} (eqb-false 13 12 refl) (eqb-false 13 16 refl) refl refl
sort_of anything l = a_boxed {t = anything} (eqb-false 14 12 refl) (eqb-false 14 16 refl) refl refl
sort_of (enum name z) l = enum_sort name z l
sort_of (nullable t) l = a_nullable
sort_of (array t) l = a_boxed {t = array t} (eqb-false 17 12 refl) (eqb-false 17 16 refl) refl refl
sort_of (list t) l = a_boxed {t = list t} (eqb-false 18 12 refl) (eqb-false 18 16 refl) refl refl
sort_of (dictionary k v) l = a_boxed {t = dictionary k v} (eqb-false 19 12 refl) (eqb-false 19 16 refl) refl refl
sort_of texture l = a_boxed {t = texture} (eqb-false 31 12 refl) (eqb-false 31 16 refl) refl refl
sort_of texture_2d l = a_boxed {t = texture_2d} (eqb-false 32 12 refl) (eqb-false 32 16 refl) refl refl
sort_of sprite_font l = a_boxed {t = sprite_font} (eqb-false 33 12 refl) (eqb-false 33 16 refl) refl refl
sort_of page l = a_boxed {t = page} (eqb-false 34 12 refl) (eqb-false 34 16 refl) refl refl
sort_of (mesh index_buffer) l = a_boxed {t = mesh index_buffer} (eqb-false 37 12 refl) (eqb-false 37 16 refl) refl refl
sort_of (mesh vertex_declaration) l = a_boxed {t = mesh vertex_declaration} (eqb-false 38 12 refl) (eqb-false 38 16 refl) refl refl
sort_of (mesh vertex_buffer) l = a_boxed {t = mesh vertex_buffer} (eqb-false 39 12 refl) (eqb-false 39 16 refl) refl refl
sort_of (mesh model) l = a_boxed {t = mesh model} (eqb-false 40 12 refl) (eqb-false 40 16 refl) refl refl

-- an element or a field of a type, and a raw value of it, by the kind of its code
module _ {file codes : List ℕ} {a : ℕ} where
  slot_sort : {t : Target} → Stands file codes a t → Sort t → SlotIs file codes (slot_by (code_kind t) a) (slot_of t)
  unfolding slot_by slot_of raw_or_object is_value code_kind
  slot_sort s a_char = (same, tt)
  slot_sort {t = t} s a_nullable = record { type = t; is = refl; stands = s }
  slot_sort {t = t} s (a_plain c n z v l w) = rw (ne_eqb (code_kind t) 12 c, ne_eqb (code_kind t) 16 n, ne_eqb (bytes_of (code_kind t)) 0 z, v) (l, w)
  slot_sort {t = t} s (a_boxed c n z v) = rw (ne_eqb (code_kind t) 12 c, ne_eqb (code_kind t) 16 n, z, v) (record { type = t; is = refl; stands = s })

  raw_sort : {t : Target} → Stands file codes a t → Sort t → SlotIs file codes (raw_of (code_kind t) a) (raw t)
  unfolding raw_of code_kind bytes_of sizes
  raw_sort s a_char = (same, tt)
  raw_sort {t = t} s a_nullable = record { type = t; is = refl; stands = s }
  raw_sort {t = t} s (a_plain c n z v l w) = rw (ne_eqb (code_kind t) 12 c, ne_eqb (bytes_of (code_kind t)) 0 z) (l, w)
  raw_sort {t = t} s (a_boxed c n z v) = rw (ne_eqb (code_kind t) 12 c, z) (record { type = t; is = refl; stands = s })

  pub slot_is : (t : Target) → Stands file codes a t → SlotIs file codes (slot_by (kind_at codes a) a) (slot_of t)
  slot_is t s = rw (kind_is s) (slot_sort s (sort_of t s.lawful))

  pub raw_is : (t : Target) → Stands file codes a t → SlotIs file codes (raw_of (kind_at codes a) a) (raw t)
  raw_is t s = rw (kind_is s) (raw_sort s (sort_of t s.lawful))

-- 01's kind of the type at a place
pub row_kind_lem : {file codes : List ℕ} {a : ℕ} {t : Target} → Stands file codes a t → row_kind (kind_at codes a) ≡ kind_of t
unfolding row_kind
row_kind_lem {t = t} s = rw (kind_is s) (sym (kind_of-code t s.lawful))

-- only an enum's kind is another than that of its code
pub kind_kept : (k j : ℕ) → (j ≢ 15) → row_kind k ≡ j → k ≡ j
unfolding row_kind
kind_kept k j n e = go (nat_le 60 k) e where
  go : (b : Bool) → cond b 15 k ≡ j → k ≡ j
  go true q = absurd (n (sym q))
  go false q = q

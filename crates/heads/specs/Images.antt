-- An image's fields, read one by one, and the values without children. Assumes nothing.
use Rattle.std.specs.Prelude.{◌≡◌, ℕ, zero, suc, ◌*◌, ◌/◌, ◌^◌, ◌<◌, ◌≤◌, max, Bool, true, false, List, ◌≢◌, nat_le, slice_index, slice_index_or, slice_range}
use Rattle.std.proofs.Math.Path.{refl, ap}
use Rattle.std.proofs.Common.{sym, ◌∙◌, inl, inr, arith}
use Rattle.std.proofs.Math.Nat.{pow-succ'}
use borrow.Author.Tests.{le-leb, lt-leb, leb-true, lt-ltb}
use Rattle.laws.specs.Small.{differ}
use Rattle.layout.specs.Target.{Target, fixed, char, string, object, texture, texture_2d, sprite_font, page, mesh, enum, nullable, array, list, dictionary}
use Rattle.layout.specs.EnumList.{EnumSize}
use Rattle.layout.specs.Image.{levels, digits}
use Rattle.layout.specs.Fixed.{sizes}
use Rattle.layout.specs.Slot.{stop, leaves}
use Rattle.reading.specs.Answer.{Answer, refused, read, bind, check, within}
use Rattle.reading.specs.Little.{little_at}
use Rattle.reading.specs.Utf8.{char_at}
use Rattle.reading.specs.Reads.{some, field}
use Rattle.reading.specs.Fixed.{rule, fixed_at, sized}
use Rattle.reading.specs.Heads.{Opening, head_at, image_at, fixed_head_at, text_at, whole, own_at}
use Rattle.numbers.specs.Padded.{beside}
use Rattle.walked.specs.Leaf.{mute}
use Rattle.leaves.specs.Text.{own_size}
use Rattle.leaves.specs.declared.run.Run.TheVariants.{Levels}
use Rattle.heads.specs.declared.nest.Below.TheVariants.{Simple}
use Rattle.leaves.specs.Like.{alike_same}
use Rattle.names.specs.Kind.{enum_kind}
use Rattle.targets.specs.Word.{enum_kind_lem}
use Rattle.targets.specs.Code.{code_kind}
use Rattle.targets.specs.Word.{sized-small}
use Rattle.heads.specs.Placed.{bytes_of}
use Rattle.heads.specs.Slots.{bytes_below}
use Rattle.heads.specs.Opens.{Headed, headed, refusing, Opens, Leafy, of_fixed, of_enum, of_char, of_string, ranged_at, levels_at, height_at, width_at}

-- a number below 2 to the k has at most k binary digits
pub digits_few : (m k x : ℕ) → x < 2 ^ k → digits m x ≤ k
unfolding digits
digits_few zero k x h = omega arith
digits_few (suc m) k zero h = omega arith
digits_few (suc m) zero (suc x) h = absurd (omega arith)
digits_few (suc m) (suc k) (suc x) h =
    let p : suc x < 2 * 2 ^ k = rw (pow-succ' 2 k) at h in
    let q : suc x / 2 < 2 ^ k = omega arith in
    omega (arith, digits_few m k (suc x / 2) q)

-- 01: sides of at most 4096 allow at most 13 levels
pub chain_bound : (w h : ℕ) → w ≤ 4096 → h ≤ 4096 → digits 32 (max w h) ≤ 13
chain_bound w h p q = digits_few 32 13 (max w h) (omega arith)

-- a step that was refused, or after which the next one opens
pub opens-refused : (file codes : List ℕ) (k : ℕ → ℕ → Answer Opening) {x : Answer ℕ} {n p : ℕ} → x ≡ refused n p → Opens file codes (bind x k) (refusing n p)
unfolding bind
opens-refused file codes k e = rw e refl

pub opens-read : (file codes : List ℕ) (k : ℕ → ℕ → Answer Opening) (r : Headed) {x : Answer ℕ} {n e : ℕ} → x ≡ read n e → Opens file codes (k n e) r → Opens file codes (bind x k) r
unfolding bind
opens-read file codes k r q o = rw q o

bind_same : {A B : Type 0} (x : Answer A) {k l : A → ℕ → Answer B} → ((a : A) (e : ℕ) → k a e ≡ l a e) → bind x k ≡ bind x l
unfolding bind
bind_same (refused n p) f = refl
bind_same (read a e) f = f a e

-- the two tests of a field of four bytes
judged : {A : Type 0} → (low high at n : ℕ) → Answer A → Answer A
judged low high at n x = check (nat_le low n) 15 at (check (nat_le n high) 15 at x)

judged-within : {A : Type 0} (m at n : ℕ) (x : Answer A) → check (within m n) 15 at x ≡ judged 1 m at n x
unfolding judged check within
judged-within m at zero x = refl
judged-within m at (suc n) x = rw (le-leb 1 (suc n) (omega arith))

judged-none : {A : Type 0} (m at n : ℕ) (x : Answer A) → check (nat_le n m) 15 at x ≡ judged 0 m at n x
unfolding judged check
judged-none m at n x = rw (le-leb 0 n (omega arith))

judged-bind : {A : Type 0} (low high at n e : ℕ) (k : ℕ → ℕ → Answer A) → judged low high at n (k n e) ≡ bind (judged low high at n (read n e)) k
unfolding judged check bind
judged-bind low high at n e k = go (nat_le low n) (nat_le n high) where
  go : (s t : Bool) → check s 15 at (check t 15 at (k n e)) ≡ bind (check s 15 at (check t 15 at (read n e))) k
  go true true = refl
  go true false = refl
  go false t = refl

bind-bind : {A B C : Type 0} (x : Answer A) (k : A → ℕ → Answer B) (l : B → ℕ → Answer C) → bind x (λ a e. bind (k a e) l) ≡ bind (bind x k) l
unfolding bind
bind-bind (refused n p) k l = refl
bind-bind (read a e) k l = refl

module _ (file : List ℕ) where
  module _ (low high at : ℕ) where
    pub ranged_refused : {n p : ℕ} → little_at file 4 at at ≡ refused n p → refused n p ≡ ranged_at file low high at
    unfolding ranged_at bind
    ranged_refused q = rw q

    pub ranged_low : {n e : ℕ} → little_at file 4 at at ≡ read n e → n < low → refused 15 at ≡ ranged_at file low high at
    unfolding ranged_at bind check
    ranged_low {n} q h = rw (q, lt-leb low n h)

    pub ranged_high : {n e : ℕ} → little_at file 4 at at ≡ read n e → low ≤ n → high < n → refused 15 at ≡ ranged_at file low high at
    unfolding ranged_at bind check
    ranged_high {n} q h g = rw (q, le-leb low n h, lt-leb n high g)

    pub ranged_there : {n e : ℕ} → little_at file 4 at at ≡ read n e → low ≤ n → n ≤ high → read n e ≡ ranged_at file low high at
    unfolding ranged_at bind check
    ranged_there {n} q h g = rw (q, le-leb low n h, le-leb n high g)

    pub ranged_bounds : {n e : ℕ} → ranged_at file low high at ≡ read n e → (low ≤ n) × (n ≤ high)
    unfolding ranged_at bind check
    ranged_bounds {n} {e} q = go (little_at file 4 at at) q where
      go : (x : Answer ℕ) → bind x (λ m f. check (nat_le low m) 15 at (check (nat_le m high) 15 at (read m f))) ≡ read n e → (low ≤ n) × (n ≤ high)
      go (refused i p) r = differ cc
      go (read m f) r = tests (nat_le low m) (nat_le m high) refl refl r where
        tests : (s t : Bool) → nat_le low m ≡ s → nat_le m high ≡ t → check s 15 at (check t 15 at (read m f)) ≡ read n e → (low ≤ n) × (n ≤ high)
        tests true true a b r = let z : m ≡ n = cc in (rw z at (leb-true low m a), rw z at (leb-true m high b))
        tests true false a b r = differ cc
        tests false t a b r = differ cc

    ranged_then : {A : Type 0} (k : ℕ → ℕ → Answer A) → bind (little_at file 4 at at) (λ n e. judged low high at n (k n e)) ≡ bind (ranged_at file low high at) k
    unfolding ranged_at judged
    ranged_then k = bind_same (little_at file 4 at at) (λ n e. judged-bind low high at n e k) ∙ bind-bind (little_at file 4 at at) _ k

  within_then : {A : Type 0} (m at : ℕ) {k l : ℕ → ℕ → Answer A} → ((n e : ℕ) → k n e ≡ l n e)
      → bind (little_at file 4 at at) (λ n e. check (within m n) 15 at (k n e)) ≡ bind (ranged_at file 1 m at) l
  within_then m at {k} {l} f =
      bind_same (little_at file 4 at at) (λ n e. judged-within m at n (k n e) ∙ ap (judged 1 m at n) (f n e)) ∙ ranged_then 1 m at l

  -- an image's four fields, each as a field within bounds
  pub image_fields : (at : ℕ) → head_at file texture_2d at ≡ bind (ranged_at file 0 18 at) (λ f e. width_at file f e)
  unfolding head_at image_at width_at height_at levels_at
  image_fields at =
      bind_same (little_at file 4 at at) (λ f e. ap (check (nat_le f 18) 15 at) (within_then 4096 e (λ w e₂. within_then 4096 e₂ (λ h e₃. within_then (digits 32 (max w h)) e₃ (λ n e₄. refl))))
      ∙ judged-none 18 at f (width_at file f e)) ∙ ranged_then 0 18 at (λ f e. width_at file f e)

  -- an image's levels stand in a run
  pub levels_open : (codes : List ℕ) (f w h at n e : ℕ) → f ≤ 18 → 1 ≤ w → w ≤ 4096 → 1 ≤ h → h ≤ 4096 → ranged_at file 1 (digits 32 (max w h)) at ≡ read n e
      → Opens file codes (levels_at file f w h at) (headed e (Simple (Levels f w h n)))
  unfolding levels_at bind
  levels_open codes f w h at n e a b c d g q =
      let z = ranged_bounds 1 (digits 32 (max w h)) at q in
      rw q (record {
        below = Simple (Levels f w h n);
        is = refl;
        goes = record {
          slots = leaves (levels f w h n);
          are = refl;
          alike = alike_same (leaves (levels f w h n));
          lawful = (a, b, c, d, g, omega (arith, chain_bound w h c g));
        };
      })

-- the padding of a count, the number of own bytes, or that nothing stands below, matters to no end
pub beside-mute : (padding : ℕ) (x : Answer ℕ) → mute (beside padding x) ≡ mute x
unfolding mute
beside-mute padding (refused n p) = refl
beside-mute padding (read n e) = refl

own_size-mute : (x : Answer Opening) → mute (own_size x) ≡ mute x
unfolding mute own_size
own_size-mute (refused n p) = refl
own_size-mute (read o e) = refl

whole-mute : (file : List ℕ) (x : Answer (List ℕ)) → mute (sized x) ≡ mute (whole file x)
unfolding mute sized whole bind
whole-mute file (refused n p) = refl
whole-mute file (read own e) = refl

own_mute : (file : List ℕ) (r : ℕ → Answer ℕ) (at : ℕ) → mute (r at) ≡ mute (whole file (own_at file r at))
unfolding mute whole own_at bind
own_mute file r at = go (r at) where
  go : (x : Answer ℕ) → mute x ≡ mute {A = Opening} (bind (bind x (λ c e. read (slice_range file at e) e)) (λ own e. read (own, stop) e))
  go (refused n p) = refl
  go (read c e) = refl

-- the bytes of a value without children, by the kind of its type's code
module _ (file : List ℕ) (at : ℕ) where
  -- a kind without a rule
  plain_mute : (k z : ℕ) → ((own : List ℕ) → rule k own ≡ true) → mute (sized (fixed_at file k z at)) ≡ mute (whole file (some file z at at))
  unfolding mute sized fixed_at field whole bind check
  plain_mute k z r = go (some file z at at) where
    go : (x : Answer (List ℕ)) → mute (sized (bind x (λ own e. check (rule k own) 15 at (read own e)))) ≡ mute {A = Opening} (bind x (λ own e. read (own, stop) e))
    go (refused n p) = refl
    go (read own e) = rw (r own)

  sized-leaf : (k : ℕ) → 0 < slice_index sizes k → mute (sized (fixed_at file k (slice_index sizes k) at)) ≡ mute (fixed_head_at file k at)
  unfolding fixed_head_at check
  sized-leaf k s = rw (lt-ltb 0 (slice_index sizes k) s) (whole-mute file (fixed_at file k (slice_index sizes k) at))

  -- an enum of a size
  enum_leaf : (name : List ℕ) (z : ℕ) → EnumSize z → mute (sized (fixed_at file (enum_kind z) (bytes_of (enum_kind z)) at)) ≡ mute (head_at file (enum name z) at)
  unfolding head_at EnumSize enum_kind bytes_of rule
  enum_leaf name z (inl e) = rw e (plain_mute 60 1 (λ own. refl))
  enum_leaf name z (inr (inl e)) = rw e (plain_mute 61 2 (λ own. refl))
  enum_leaf name z (inr (inr (inl e))) = rw e (plain_mute 62 4 (λ own. refl))
  enum_leaf name z (inr (inr (inr e))) = rw e (plain_mute 63 8 (λ own. refl))

  pub char-leaf : (t : Target) → Leafy t → code_kind t ≡ 12 → mute (char_at file at) ≡ mute (head_at file t at)
  unfolding head_at code_kind sizes
  char-leaf (fixed k) (of_fixed s) e = absurd (let z : 0 < slice_index_or sizes 12 0 = rw e at s in omega arith)
  char-leaf (enum name z) (of_enum s) e = absurd (omega (arith, enum_kind_lem z s))
  char-leaf char of_char e = own_mute file (char_at file) at
  char-leaf string of_string e = absurd (omega arith)
  char-leaf object l e = elim l [ ]
  char-leaf texture l e = elim l [ ]
  char-leaf texture_2d l e = elim l [ ]
  char-leaf sprite_font l e = elim l [ ]
  char-leaf page l e = elim l [ ]
  char-leaf (mesh _) l e = elim l [ ]
  char-leaf (nullable _) l e = elim l [ ]
  char-leaf (array _) l e = elim l [ ]
  char-leaf (list _) l e = elim l [ ]
  char-leaf (dictionary _ _) l e = elim l [ ]

  pub text-leaf : (t : Target) → Leafy t → code_kind t ≡ 13 → mute (own_size (text_at file at)) ≡ mute (head_at file t at)
  unfolding head_at code_kind sizes
  text-leaf (fixed k) (of_fixed s) e = absurd (let z : 0 < slice_index_or sizes 13 0 = rw e at s in omega arith)
  text-leaf (enum name z) (of_enum s) e = absurd (omega (arith, enum_kind_lem z s))
  text-leaf char of_char e = absurd (omega arith)
  text-leaf string of_string e = own_size-mute (text_at file at)
  text-leaf object l e = elim l [ ]
  text-leaf texture l e = elim l [ ]
  text-leaf texture_2d l e = elim l [ ]
  text-leaf sprite_font l e = elim l [ ]
  text-leaf page l e = elim l [ ]
  text-leaf (mesh _) l e = elim l [ ]
  text-leaf (nullable _) l e = elim l [ ]
  text-leaf (array _) l e = elim l [ ]
  text-leaf (list _) l e = elim l [ ]
  text-leaf (dictionary _ _) l e = elim l [ ]

  kind_leaf : (t : Target) → Leafy t → (code_kind t ≢ 12) → (code_kind t ≢ 13) → mute (sized (fixed_at file (code_kind t) (bytes_of (code_kind t)) at)) ≡ mute (head_at file t at)
  unfolding head_at code_kind
  kind_leaf (fixed k) (of_fixed s) c d = rw (bytes_below k (sized-small k s)) (sized-leaf k s)
  kind_leaf (enum name z) (of_enum s) c d = enum_leaf name z s
  kind_leaf char of_char c d = absurd (c refl)
  kind_leaf string of_string c d = absurd (d refl)
  kind_leaf object l c d = elim l [ ]
  kind_leaf texture l c d = elim l [ ]
  kind_leaf texture_2d l c d = elim l [ ]
  kind_leaf sprite_font l c d = elim l [ ]
  kind_leaf page l c d = elim l [ ]
  kind_leaf (mesh _) l c d = elim l [ ]
  kind_leaf (nullable _) l c d = elim l [ ]
  kind_leaf (array _) l c d = elim l [ ]
  kind_leaf (list _) l c d = elim l [ ]
  kind_leaf (dictionary _ _) l c d = elim l [ ]

  pub fixed-leaf : (t : Target) (k z : ℕ) → Leafy t → code_kind t ≡ k → z ≡ bytes_of k → (k ≢ 12) → (k ≢ 13) → mute (sized (fixed_at file k z at)) ≡ mute (head_at file t at)
  fixed-leaf t k z l e s c d = rw (s, ← e) (kind_leaf t l (λ q. c (sym e ∙ q)) (λ q. d (sym e ∙ q)))

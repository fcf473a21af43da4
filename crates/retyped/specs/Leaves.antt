-- The readers that nest nothing, side by side over two files: numbers, fields, leaves and heads. Only a String's head has a text. Assumes nothing.
use Rattle.std.specs.Prelude.{◌≡◌, Bool, false, List, [], ◌++◌, ◌⊎◌, ltb, take, drop}
use Rattle.std.proofs.Math.Path.{refl, sym, ap}
use Rattle.std.proofs.Common.{◌∙◌, inl, inr, arith, ext_get_or, get_or-drop, get_or-take, length-take-le, leb-true, ltb-true, ltb-false}
use Rattle.std.proofs.Math.Bool.{true}
use Prim.Native.Nat.{ℕ, zero, suc, ◌+◌, ◌-◌, ◌<◌, ◌≤◌, max}
use Rattle.std.proofs.Math.Dec.{leb, eqb}
use Rattle.std.proofs.Math.ListN.{length, get_or, length-drop, replicate}
use Rattle.laws.specs.Small.{differ}
use Rattle.layout.specs.Number.{Seven, little, value_of}
use Rattle.layout.specs.Fixed.{sizes}
use Rattle.layout.specs.Image.{levels, digits}
use Rattle.layout.specs.Head.{Head}
use Rattle.layout.specs.Target.{Target, fixed, char, string, object, texture, texture_2d, sprite_font, page, mesh, enum, nullable, array, list, dictionary, kind_of}
use Rattle.layout.specs.Slot.{Leaf, level, blob, numeric, Slot, slot_of, stop, each, pairs, leaves}
use Rattle.reading.specs.Answer.{Answer, refused, read, bind, check, within}
use Rattle.reading.specs.Reads.{Small, some, some_reads, field}
use Rattle.reading.specs.Seven.{seven_at, seven_reads}
use Rattle.reading.specs.Little.{little_at}
use Rattle.reading.specs.Utf8.{char_at, utf8s, utf8s-sound, utf8s-complete}
use Rattle.reading.specs.Fixed.{rule, fixed_at, is_boolean}
use Rattle.reading.specs.Heads.{Opening, always, keeps, flag_plan, own_at, whole, fixed_head_at, text_at, flag_at, count_at, image_at, leaf_at, head_at}
use Rattle.reading.proofs.Heads.{head_reads}
use Rattle.retyped.specs.Texts.{Span, HeadText}
use Rattle.retyped.specs.Twin.{Behind, check_behind, WasRead, check-read, SameBy, both_refused, both_read, Covered, typed, behind, InSome, Agree, Twin, Quiet, twin-map, twin_weaken, twin-read, twin-refused, twin-check, then_twin, quiet_check, quiet_bind, tail_same, plainly, reader-twin}

-- heads that are read alike: the same plan, and only a text's own bytes may differ, which are as many
abbrev pub HeadAlike : Target → Opening → Opening → Type 0
HeadAlike t h h' = (h.1 ≡ h'.1) × (length h.0 ≡ length h'.0) × ((kind_of t ≡ 13 → ⊥) → h.0 ≡ h'.0)

pub head_own : (t : Target) (h : Opening) → HeadAlike t h h
head_own t h = (refl, refl, λ k. refl)

-- a text's bytes that were read, judged
abbrev judged_bytes : (at : ℕ) (own : List ℕ) (next : ℕ) → Answer Opening
judged_bytes at own next = check (utf8s own) 15 at (read (own, stop) next)

-- a text, once its count is read
pub text_is : (file : List ℕ) (n at e : ℕ)
    → field file {B = Opening} (some file n at) utf8s (λ own. (own, stop)) at e
    ≡ check (leb n (length (drop e file))) 1 at (check (utf8s (take n (drop e file))) 15 at (read (take n (drop e file), stop) (e + n)))
unfolding field some bind check
text_is file n at e = go (leb n (length (drop e file))) where
  go : (b : Bool) → bind (check b 1 at (read (take n (drop e file)) (e + n))) (judged_bytes at)
      ≡ check b 1 at (check (utf8s (take n (drop e file))) 15 at (read (take n (drop e file), stop) (e + n)))
  go true = refl
  go false = refl

-- two checks before a value that was read: both held
checked : {A : Type 0} (b c : Bool) (n p m q : ℕ) (a : A) (e : ℕ) (v : A) (next : ℕ) → check b n p (check c m q (read a e)) ≡ read v next
    → (b ≡ true) × (c ≡ true) × (a ≡ v) × (e ≡ next)
unfolding check
checked true true n p m q a e v next z = (refl, refl, cc, cc)
checked true false n p m q a e v next z = differ cc
checked false c n p m q a e v next z = differ cc

-- a text of n bytes at e
abbrev pub TextBytes : (file : List ℕ) (n e : ℕ) → Span → Type 0
TextBytes file n e x = (x.0 ≡ e) × (x.1 ≡ n) × (utf8s (take n (drop e file)) ≡ true)

-- what reading a count and a text says of the text
pub text_here : (file : List ℕ) (at : ℕ) (x : Span) → HeadText file string at x
    → (n : ℕ) × (e : ℕ) × (seven_at file at ≡ read n e) × ((leb n (length (drop e file)) ≡ true) × TextBytes file n e x)
unfolding HeadText head_at text_at bind
text_here file at x w = go (seven_at file at) refl w.1.2 where
  go : (o : Answer ℕ) → seven_at file at ≡ o → bind o (λ n e. field file (some file n at) utf8s (λ own. (own, stop)) at e) ≡ read w.1.0 w.1.1
      → (n : ℕ) × (e : ℕ) × (seven_at file at ≡ read n e) × ((leb n (length (drop e file)) ≡ true) × TextBytes file n e x)
  go (refused m p) q v = differ cc
  go (read n e) q v =
      let h = w.1.0 in
      let c = checked (leb n (length (drop e file))) (utf8s (take n (drop e file))) 1 at 15 at (take n (drop e file), stop) (e + n) h w.1.1 (sym (text_is file n at e) ∙ v) in
      let l : length h.0 ≡ n = ap (λ (o : Opening). length o.0) (sym c.2) ∙ length-take-le n (drop e file) (leb-true n (length (drop e file)) c.0) in
      let a : x.1 ≡ n = omega (arith, w.1.3, l) in
      let b : x.0 ≡ e = omega (arith, c.3, w.1.4) in
      (n, e, q, (c.0, (b, a, c.1)))

-- and a text that stands there is read
pub text_there : (file : List ℕ) (at : ℕ) (x : Span) (n e : ℕ) → seven_at file at ≡ read n e → leb n (length (drop e file)) ≡ true → TextBytes file n e x → HeadText file string at x
unfolding HeadText head_at text_at bind check
text_there file at x n e q b w =
    let l : length (take n (drop e file)) ≡ n = length-take-le n (drop e file) (leb-true n (length (drop e file)) b) in
    let a : field file {B = Opening} (some file n at) utf8s (λ own. (own, stop)) at e ≡ read (take n (drop e file), stop) (e + n) = text_is file n at e ∙ rw (b, w.2) in
    (refl, ((take n (drop e file), stop), e + n, rw q a, w.1 ∙ sym l, omega (arith, w.0, w.1)))

module _ (f g : List ℕ) (small : Small f) (equal : length f ≡ length g) where
  pub some-twin : (n place at : ℕ) → Quiet f g at (some f n place at) (some g n place at)
  unfolding some
  some-twin n place at =
      reader-twin f g small equal (λ own bs. (bs ≡ own) × (length own ≡ n)) (λ file a. some file n place a) (λ file. some_reads file n place) (λ a q. rw q) at

  pub seven-twin : (at : ℕ) → Quiet f g at (seven_at f at) (seven_at g at)
  unfolding seven_at
  seven-twin at = reader-twin f g small equal Seven seven_at seven_reads (λ a q. rw q) at

  pub little-twin : (k place at : ℕ) → Quiet f g at (little_at f k place at) (little_at g k place at)
  unfolding little_at
  little-twin k place at = quiet_bind f g (some f k place at) (some g k place at) (λ bs e. read (value_of bs) e) (λ bs e. read (value_of bs) e) (some-twin k place at) (λ bs e q. twin-read f g refl)

  pub field_twin : {A B : Type 0} (r r' : ℕ → Answer A) (test : A → Bool) (fn : A → B) (place at : ℕ) → Quiet f g at (r at) (r' at) → Quiet f g at (field f r test fn place at) (field g r' test fn place at)
  unfolding field
  field_twin {A} {B} r r' test fn place at h =
      let k : A → ℕ → Answer B = λ a e. check (test a) 15 place (read (fn a) e) in
      quiet_bind f g (r at) (r' at) k k h (λ a e q. quiet_check f g (test a) 15 place (read (fn a) e) (read (fn a) e) (λ t. twin-read f g refl))

  -- a number, its rule, and what follows
  pub ruled : {B : Type 0} (test : ℕ → Bool) (k k' : ℕ → ℕ → Answer B) (at : ℕ) → ((n e : ℕ) → Quiet f g e (k n e) (k' n e))
      → Quiet f g at (bind (little_at f 4 at at) (λ n e. check (test n) 15 at (k n e))) (bind (little_at g 4 at at) (λ n e. check (test n) 15 at (k' n e)))
  ruled test k k' at c =
      quiet_bind f g (little_at f 4 at at) (little_at g 4 at at) (λ n e. check (test n) 15 at (k n e)) (λ n e. check (test n) 15 at (k' n e)) (little-twin 4 at at)
      (λ n e q. quiet_check f g (test n) 15 at (k n e) (k' n e) (λ t. c n e))

  pub leaf-twin : (l : Leaf) (at : ℕ) → Quiet f g at (leaf_at f l at) (leaf_at g l at)
  unfolding leaf_at
  leaf-twin (level z) at = ruled (λ n. eqb n z) (λ n e. some f n at e) (λ n e. some g n at e) at (λ n e. some-twin n at e)
  leaf-twin (blob z) at = some-twin z at at
  leaf-twin (numeric x z r) at = field_twin (some f z at) (some g z at) (λ own. keeps r (value_of own)) (λ own. own) at at (some-twin z at at)

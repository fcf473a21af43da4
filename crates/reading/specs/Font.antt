-- The test of the font rule over a font's children, and that it says just what the layout's rule says. Assumes nothing.
use Rattle.std.specs.Prelude.{◌≡◌, Bool, ◌&&◌, ◌⊎◌, ltb, eqb, length, get_or, replicate}
use Rattle.std.proofs.Math.Path.{refl}
use Rattle.std.proofs.Math.Bool.{true, false}
use mathlib.Core.List.{List, [], ◌∷◌}
use Rattle.std.proofs.Common.{inl, inr, arith}
use Prim.Native.Nat.{ℕ, zero, suc, ◌<◌}
use borrow.Author.Tests.{ltb-true, lt-ltb, eqb-true, eq-eqb}
use Rattle.laws.specs.Small.{both}
use Rattle.layout.specs.Text.{Character}
use Rattle.layout.specs.Target.{Target, char, list, sprite_font, Serves, same as serves_same}
use Rattle.layout.specs.Tree.{Trees, none, tree, count, kind_at, children_at}
use Rattle.layout.specs.Slot.{Slot, raw, object, slot_of, raw_or_object, each, font_slots}
use Rattle.layout.specs.Target.{is_value}
use Rattle.layout.specs.Head.{Head, Counted}
use Rattle.layout.specs.Font.{Above, Rising, FontRule}
use Rattle.layout.specs.Layout.{Raw, Null, Object, Value, Lays}
use Rattle.reading.specs.Rules.{same, same_true, same_refl}

-- each of some trees is a character
unfoldable pub Characters : Trees → Type 0
Characters none = Unit {0}
Characters (tree k i own cs rest) = ((c : ℕ) × Character c own) × Characters rest

-- not null
abbrev some : ℕ → Bool
some k = ltb 0 k

some-true : (k : ℕ) → some k ≡ true → k ≡ 0 → ⊥
some-true k t e = omega (arith, ltb-true 0 k t)

true-some : (k : ℕ) → (k ≡ 0 → ⊥) → some k ≡ true
true-some zero f = absurd (f refl)
true-some (suc k) f = lt-ltb 0 (suc k) (omega arith)

module _ (point : List ℕ → ℕ) where
  unfoldable pub above : List ℕ → Trees → Bool
  above before none = true
  above before (tree k i own cs rest) = ltb (point before) (point own)

  unfoldable pub rising : Trees → Bool
  rising none = true
  rising (tree k i own cs rest) = above own rest && rising rest

  -- the five objects are there, the four lists have equal counts, and the characters rise
  unfoldable pub font_test : Trees → Bool
  font_test cs =
      some (kind_at 0 cs) && (some (kind_at 1 cs) && (some (kind_at 2 cs) && (some (kind_at 3 cs) && (some (kind_at 6 cs)
      && (eqb (count (children_at 1 cs)) (count (children_at 3 cs)) && (eqb (count (children_at 2 cs)) (count (children_at 3 cs))
      && (eqb (count (children_at 6 cs)) (count (children_at 3 cs)) && rising (children_at 3 cs))))))))

  -- only a font has the rule
  unfoldable pub font_if : Bool → Trees → Bool
  font_if true cs = font_test cs
  font_if false cs = true

  unfoldable pub font_ok : Target → Trees → Bool
  font_ok t cs = font_if (same t sprite_font) cs

  module _ (point_is : (c : ℕ) (own : List ℕ) → Character c own → point own ≡ c) where
    above_complete : (before : List ℕ) (ts : Trees) → Above before ts → above before ts ≡ true
    unfolding Above above
    above_complete before none w = refl
    above_complete before (tree k i own cs rest) w =
        rw (point_is w.0 before w.2, point_is w.1 own w.3) (lt-ltb w.0 w.1 w.4)

    rising_complete : (ts : Trees) → Rising ts → rising ts ≡ true
    unfolding Rising rising
    rising_complete none w = refl
    rising_complete (tree k i own cs rest) w = rw (above_complete own rest w.0) (rising_complete rest w.1)

    above_sound : (before : List ℕ) (ts : Trees) → ((c : ℕ) × Character c before) → Characters ts → above before ts ≡ true → Above before ts
    unfolding Above above Characters
    above_sound before none b cs t = tt
    above_sound before (tree k i own cs rest) b c t =
        let p = point_is b.0 before b.1 in
        let q = point_is c.0.0 own c.0.1 in
        (b.0, c.0.0, b.1, c.0.1, ltb-true b.0 c.0.0 (rw (p, q) at t))

    rising_sound : (ts : Trees) → Characters ts → rising ts ≡ true → Rising ts
    unfolding Rising rising Characters
    rising_sound none c t = tt
    rising_sound (tree k i own cs rest) c t =
        let b = both (above own rest) (rising rest) t in
        (above_sound own rest c.0 c.1 b.0, rising_sound rest c.1 b.1)

    test_complete : (cs : Trees) → FontRule cs → font_test cs ≡ true
    unfolding font_test
    test_complete cs w =
        rw (
          true-some (kind_at 0 cs) w.texture,
          true-some (kind_at 1 cs) w.glyphs,
          true-some (kind_at 2 cs) w.cropping,
          true-some (kind_at 3 cs) w.characters,
          true-some (kind_at 6 cs) w.kerning,
          eq-eqb _ _ w.glyph_count,
          eq-eqb _ _ w.cropping_count,
          eq-eqb _ _ w.kerning_count,
          rising_complete (children_at 3 cs) w.rising,
        )

    test_sound : (cs : Trees) → Characters (children_at 3 cs) → font_test cs ≡ true → FontRule cs
    unfolding font_test
    test_sound cs c t =
        let a₀ = both _ _ t in
        let a₁ = both _ _ a₀.1 in
        let a₂ = both _ _ a₁.1 in
        let a₃ = both _ _ a₂.1 in
        let a₄ = both _ _ a₃.1 in
        let a₅ = both _ _ a₄.1 in
        let a₆ = both _ _ a₅.1 in
        let a₇ = both _ _ a₆.1 in
        record {
          texture = some-true _ a₀.0;
          glyphs = some-true _ a₁.0;
          cropping = some-true _ a₂.0;
          characters = some-true _ a₃.0;
          kerning = some-true _ a₄.0;
          glyph_count = eqb-true _ _ a₅.0;
          cropping_count = eqb-true _ _ a₆.0;
          kerning_count = eqb-true _ _ a₇.0;
          rising = rising_sound (children_at 3 cs) c a₇.1;
        }

    pub font_complete : (t : Target) (cs : Trees) → (t ≡ sprite_font → FontRule cs) → font_ok t cs ≡ true
    unfolding font_ok font_if
    font_complete t cs f = go (same t sprite_font) refl where
      go : (b : Bool) → same t sprite_font ≡ b → font_if (same t sprite_font) cs ≡ true
      go true e = rw e (test_complete cs (f (same_true t sprite_font e)))
      go false e = rw e

    pub font_sound : (t : Target) (cs : Trees) → (t ≡ sprite_font → Characters (children_at 3 cs)) → font_ok t cs ≡ true → t ≡ sprite_font → FontRule cs
    unfolding font_ok font_if
    font_sound t cs c e q =
        let s : same t sprite_font ≡ true = rw q (same_refl sprite_font) in
        test_sound cs (c q) (rw s at e)

-- one of the children that a list of slots has laid down
pub record Child (readers : List Target) (refers : ℕ → ℕ → Type 0) (x : Slot) (kind : ℕ) (cs : Trees) : Type 0 where
  pub id : ℕ
  pub own : List ℕ
  pub bytes : List ℕ
  pub value : Value readers refers (λ plan b. Lays readers refers plan cs b) x kind id own cs bytes

module _ (readers : List Target) (refers : ℕ → ℕ → Type 0) where
  pub child_at : (i : ℕ) (slots : List Slot) (x : Slot) (ts : Trees) (bs : List ℕ) → Lays readers refers (each slots) ts bs
      → i < length slots → get_or slots i x ≡ x → Child readers refers x (kind_at i ts) (children_at i ts)
  unfolding Lays each kind_at children_at
  child_at i [] x ts bs w h e = absurd (omega arith)
  child_at i (y ∷ slots) x none bs w h e = absurd w
  child_at zero (y ∷ slots) x (tree k d own cs rest) bs w h e = record { id = d; own = own; bytes = w.0; value = rw e at w.3 }
  child_at (suc i) (y ∷ slots) x (tree k d own cs rest) bs w h e = child_at i slots x rest w.1 w.4 (omega arith) e

  -- the elements of a list of characters
  elements : (n : ℕ) (ts : Trees) (bs : List ℕ) → Lays readers refers (each (replicate n (raw char))) ts bs → Characters ts
  unfolding Lays each Characters Value Head
  elements zero none bs w = tt
  elements zero (tree k d own cs rest) bs w = absurd w
  elements (suc n) none bs w = absurd w
  elements (suc n) (tree k d own cs rest) bs w = (w.3.1.headed.1, elements n rest w.1 w.4)

  only-list : {t : Target} → Serves (list char) t → t ≡ list char
  only-list serves_same = refl

  in_list : (kind : ℕ) (own : List ℕ) (cs : Trees) (bs : List ℕ) → Raw (λ plan b. Lays readers refers plan cs b) (list char) kind own cs bs → Characters cs
  unfolding Head Counted slot_of is_value raw_or_object
  in_list kind own cs bs w =
      let h = w.headed in
      elements h.0 cs w.children (rw h.4 at w.laid)

  map_of : (kind id : ℕ) (own : List ℕ) (cs : Trees) (bs : List ℕ)
      → Null kind id own cs bs ⊎ Object readers (λ plan b. Lays readers refers plan cs b) (list char) kind id own cs bs → Characters cs
  unfolding Characters
  map_of kind id own cs bs (inl w) = rw w.childless tt
  map_of kind id own cs bs (inr w) = in_list kind own cs w.value (rw (only-list w.serves) at w.laid)

  -- the character map of a font that is laid down holds characters
  pub font_characters : (ts : Trees) (bs : List ℕ) → Lays readers refers (each font_slots) ts bs → Characters (children_at 3 ts)
  unfolding font_slots Value
  font_characters ts bs w =
      let c = child_at 3 font_slots (object (list char)) ts bs w (omega arith) refl in
      map_of (kind_at 3 ts) c.id c.own (children_at 3 ts) c.bytes c.value

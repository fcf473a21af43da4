-- Trees that differ in their texts alone, and that nothing which steers is a text: neither what a field tells, nor a count, nor a font's characters. Assumes
-- nothing.
use Rattle.std.specs.Prelude.{◌≡◌, Bool, cond, ◌||◌, List, [], ◌⊎◌, eqb, length, replicate}
use Rattle.std.proofs.Math.Path.{refl, ap}
use Rattle.std.proofs.Common.{sym, inl, inr, arith, eqb-true}
use Rattle.std.proofs.Math.Bool.{true, false}
use Prim.Native.Nat.{ℕ, zero, suc}
use Rattle.layout.specs.Number.{value_of}
use Rattle.layout.specs.Target.{Target, char, list, sprite_font, kind_of, is_value, Serves, same as serves_same}
use Rattle.layout.specs.Tree.{Trees, none, tree, count, kind_at, children_at, first_value, told, told_of}
use Rattle.layout.specs.Slot.{raw, object, slot_of, raw_or_object, each, font_slots}
use Rattle.layout.specs.Head.{Head, Counted}
use Rattle.layout.specs.Layout.{Raw, Null, Object, Value, Lays}
use Rattle.reading.specs.Answer.{read}
use Rattle.reading.specs.Rules.{same, same_true}
use Rattle.reading.specs.Font.{above, rising, font_test, font_if, font_ok, child_at}
use Rattle.reading.specs.Heads.{Opening, head_at}
use Rattle.reading.specs.Walk.{Taken, before, point}

-- the same values in the same places, but for the bytes of texts, which are as many
unfoldable pub Alike : Trees → Trees → Type 0
Alike none none = Unit {0}
Alike none (tree k i own cs rest) = ⊥
Alike (tree k i own cs rest) none = ⊥
Alike (tree k i own cs rest) (tree k' i' own' cs' rest') =
    (k ≡ k') × (i ≡ i') × (length own ≡ length own') × ((k ≡ 13 → ⊥) → own ≡ own') × Alike cs cs' × Alike rest rest'

-- as many rows are used, the rows are the same, and the trees are alike
abbrev pub TakenAlike : Taken → Taken → Type 0
TakenAlike a b = (a.0 ≡ b.0) × (a.1 ≡ b.1) × Alike a.2 b.2

pub alike_refl : (ts : Trees) → Alike ts ts
unfolding Alike
alike_refl none = tt
alike_refl (tree k i own cs rest) = (refl, refl, refl, (λ n. refl), alike_refl cs, alike_refl rest)

pub taken_own : (a : Taken) → TakenAlike a a
taken_own a = (refl, refl, alike_refl a.2)

pub tree-alike : (k i : ℕ) (own own' : List ℕ) (cs cs' : Trees) → length own ≡ length own' → ((k ≡ 13 → ⊥) → own ≡ own') → Alike cs cs' → Alike (tree k i own cs none) (tree k i own' cs' none)
unfolding Alike
tree-alike k i own own' cs cs' l q w = (refl, refl, l, q, w, tt)

pub before_alike : (ts us xs ys : Trees) → Alike ts us → Alike xs ys → Alike (before ts xs) (before us ys)
unfolding Alike before
before_alike none none xs ys w v = v
before_alike none (tree k i own cs rest) xs ys w v = absurd w
before_alike (tree k i own cs rest) none xs ys w v = absurd w
before_alike (tree k i own cs rest) (tree k' i' own' cs' rest') xs ys w v = (w.0, w.1, w.2, w.3, w.4, v)

pub count-alike : (ts us : Trees) → Alike ts us → count ts ≡ count us
unfolding Alike count
count-alike none none w = refl
count-alike none (tree k i own cs rest) w = absurd w
count-alike (tree k i own cs rest) none w = absurd w
count-alike (tree k i own cs rest) (tree k' i' own' cs' rest') w = ap suc (count-alike rest rest' w.5)

-- ---- What a field tells is no text

first_alike : (ts us : Trees) → Alike ts us → first_value ts ≡ first_value us
unfolding Alike first_value
first_alike none none w = refl
first_alike none (tree k i own cs rest) w = absurd w
first_alike (tree k i own cs rest) none w = absurd w
first_alike (tree k i own cs rest) (tree k' i' own' cs' rest') w = rw (← w.0) (go (eqb k 6) refl) where
  go : (b : Bool) → eqb k 6 ≡ b → cond b (value_of own) 0 ≡ cond b (value_of own') 0
  go true e = ap value_of (w.3 (λ z. let q = eqb-true k 6 e in omega arith))
  go false e = refl

pub told-alike : (ts us : Trees) → Alike ts us → told_of ts ≡ told_of us
unfolding Alike told_of told
told-alike none none w = refl
told-alike none (tree k i own cs rest) w = absurd w
told-alike (tree k i own cs rest) none w = absurd w
told-alike (tree k i own cs rest) (tree k' i' own' cs' rest') w = rw (← w.0, ← first_alike cs cs' w.4) (go (eqb k 6) (eqb k 11) refl refl) where
  go : (a b : Bool) → eqb k 6 ≡ a → eqb k 11 ≡ b → cond (a || b) (value_of own) (cond (eqb k 38) (first_value cs) 0) ≡ cond (a || b) (value_of own') (cond (eqb k 38) (first_value cs) 0)
  go true b e q = ap value_of (w.3 (λ z. let r = eqb-true k 6 e in omega arith))
  go false true e q = ap value_of (w.3 (λ z. let r = eqb-true k 11 q in omega arith))
  go false false e q = refl

-- ---- A font's characters are no texts

-- none of some trees is a text
unfoldable Wordless : Trees → Type 0
Wordless none = Unit {0}
Wordless (tree k i own cs rest) = (k ≡ 13 → ⊥) × Wordless rest

above-alike : (own : List ℕ) (ts us : Trees) → Alike ts us → Wordless ts → above point own ts ≡ above point own us
unfolding Alike Wordless above
above-alike own none none w v = refl
above-alike own none (tree k i o cs rest) w v = absurd w
above-alike own (tree k i o cs rest) none w v = absurd w
above-alike own (tree k i o cs rest) (tree k' i' o' cs' rest') w v = rw (w.3 v.0)

rising-alike : (ts us : Trees) → Alike ts us → Wordless ts → rising point ts ≡ rising point us
unfolding Alike Wordless rising
rising-alike none none w v = refl
rising-alike none (tree k i own cs rest) w v = absurd w
rising-alike (tree k i own cs rest) none w v = absurd w
rising-alike (tree k i own cs rest) (tree k' i' own' cs' rest') w v =
    rw (← w.3 v.0, ← above-alike own rest rest' w.5 v.1, ← rising-alike rest rest' w.5 v.1)

kind_alike : (i : ℕ) (ts us : Trees) → Alike ts us → kind_at i ts ≡ kind_at i us
unfolding Alike kind_at
kind_alike i none none w = refl
kind_alike i none (tree k d own cs rest) w = absurd w
kind_alike i (tree k d own cs rest) none w = absurd w
kind_alike zero (tree k d own cs rest) (tree k' d' own' cs' rest') w = w.0
kind_alike (suc i) (tree k d own cs rest) (tree k' d' own' cs' rest') w = kind_alike i rest rest' w.5

children-alike : (i : ℕ) (ts us : Trees) → Alike ts us → Alike (children_at i ts) (children_at i us)
unfolding Alike children_at
children-alike i none none w = tt
children-alike i none (tree k d own cs rest) w = absurd w
children-alike i (tree k d own cs rest) none w = absurd w
children-alike zero (tree k d own cs rest) (tree k' d' own' cs' rest') w = w.4
children-alike (suc i) (tree k d own cs rest) (tree k' d' own' cs' rest') w = children-alike i rest rest' w.5

test_alike : (ts us : Trees) → Alike ts us → Wordless (children_at 3 ts) → font_test point ts ≡ font_test point us
unfolding font_test
test_alike ts us w v =
    let n : (i : ℕ) → count (children_at i ts) ≡ count (children_at i us) = λ i. count-alike (children_at i ts) (children_at i us) (children-alike i ts us w) in
    rw (
      kind_alike 0 ts us w,
      kind_alike 1 ts us w,
      kind_alike 2 ts us w,
      kind_alike 3 ts us w,
      kind_alike 6 ts us w,
      n 1,
      n 2,
      n 3,
      n 6,
      rising-alike (children_at 3 ts) (children_at 3 us) (children-alike 3 ts us w) v,
    )

module _ (readers : List Target) (refers : ℕ → ℕ → Type 0) where
  elements : (n : ℕ) (ts : Trees) (bs : List ℕ) → Lays readers refers (each (replicate n (raw char))) ts bs → Wordless ts
  unfolding Lays each Wordless Value kind_of
  elements zero none bs w = tt
  elements zero (tree k d own cs rest) bs w = absurd w
  elements (suc n) none bs w = absurd w
  elements (suc n) (tree k d own cs rest) bs w = ((λ e. omega (arith, w.3.1.kind_of_lem)), elements n rest w.1 w.4)

  only-list : {t : Target} → Serves (list char) t → t ≡ list char
  only-list serves_same = refl

  in_list : (kind : ℕ) (own : List ℕ) (cs : Trees) (bs : List ℕ) → Raw (λ plan b. Lays readers refers plan cs b) (list char) kind own cs bs → Wordless cs
  unfolding Head Counted slot_of is_value raw_or_object
  in_list kind own cs bs w =
      let h = w.headed in
      elements h.0 cs w.children (rw h.4 at w.laid)

  map_of : (kind id : ℕ) (own : List ℕ) (cs : Trees) (bs : List ℕ)
      → Null kind id own cs bs ⊎ Object readers (λ plan b. Lays readers refers plan cs b) (list char) kind id own cs bs → Wordless cs
  unfolding Wordless
  map_of kind id own cs bs (inl w) = rw w.childless tt
  map_of kind id own cs bs (inr w) = in_list kind own cs w.value (rw (only-list w.serves) at w.laid)

  font_wordless : (ts : Trees) (bs : List ℕ) → Lays readers refers (each font_slots) ts bs → Wordless (children_at 3 ts)
  unfolding font_slots Value
  font_wordless ts bs w =
      let c = child_at readers refers 3 font_slots (object (list char)) ts bs w (omega arith) refl in
      map_of (kind_at 3 ts) c.id c.own (children_at 3 ts) c.bytes c.value

  font_head : (file : List ℕ) (at : ℕ) (h : Opening) (n : ℕ) → head_at file sprite_font at ≡ read h n → h.1 ≡ each font_slots
  unfolding head_at
  font_head file at h n q =
      let e : ([], each font_slots) ≡ h = cc in
      ap (λ (o : Opening). o.1) (sym e)

  -- the font rule is kept by both or by neither
  pub font_alike : (file : List ℕ) (t : Target) (at : ℕ) (h : Opening) (n : ℕ) → head_at file t at ≡ read h n → (ts us : Trees) (bs : List ℕ) → Lays readers refers h.1 ts bs → Alike ts us
      → font_ok point t ts ≡ font_ok point t us
  unfolding font_ok font_if
  font_alike file t at h n q ts us bs laid w = go (same t sprite_font) refl where
    go : (b : Bool) → same t sprite_font ≡ b → font_if point b ts ≡ font_if point b us
    go true e =
        let s : t ≡ sprite_font = same_true t sprite_font e in
        let p : h.1 ≡ each font_slots = font_head file at h n (rw s at q) in
        test_alike ts us w (font_wordless ts bs (rw p at laid))
    go false e = refl

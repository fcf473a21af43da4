-- The readers that nest nothing, side by side over two files: numbers, fields, leaves and heads. Only a String's head has a text. Assumes nothing.
use Rattle.std.specs.Prelude.{◌≡◌, Bool, false, List, [], ◌++◌, ◌⊎◌, ltb, take, drop}
use Rattle.std.proofs.Math.Path.{refl, sym, ap}
use Rattle.std.proofs.Common.{◌∙◌, inl, inr, arith, ext_get_or, get_or-drop, get_or-take, length-take-le, leb-true, ltb-true, ltb-false}
use Rattle.std.proofs.Math.Bool.{true}
use Prim.Native.Nat.{ℕ, zero, suc, ◌+◌, ◌-◌, ◌<◌, ◌≤◌, max}
use Rattle.std.proofs.Math.Dec.{leb, eqb}
use Rattle.std.proofs.Math.ListN.{length, get_or, length-drop, replicate}
use Rattle.laws.specs.Small.{differ}
use Rattle.layout.specs.Number.{Seven, little, value_of}
use Rattle.layout.specs.Fixed.{sizes}
use Rattle.layout.specs.Image.{levels, digits}
use Rattle.layout.specs.Head.{Head}
use Rattle.layout.specs.Target.{Target, fixed, char, string, object, texture, texture_2d, sprite_font, page, mesh, enum, nullable, array, list, dictionary, kind_of}
use Rattle.layout.specs.Slot.{Leaf, level, blob, numeric, Slot, slot_of, stop, each, pairs, leaves}
use Rattle.reading.specs.Answer.{Answer, refused, read, bind, check, within}
use Rattle.reading.specs.Reads.{Small, some, some_reads, field}
use Rattle.reading.specs.Seven.{seven_at, seven_reads}
use Rattle.reading.specs.Little.{little_at}
use Rattle.reading.specs.Utf8.{char_at, utf8s, utf8s-sound, utf8s-complete}
use Rattle.reading.specs.Fixed.{rule, fixed_at, is_boolean}
use Rattle.reading.specs.Heads.{Opening, always, keeps, flag_plan, own_at, whole, fixed_head_at, text_at, flag_at, count_at, image_at, leaf_at, head_at}
use Rattle.reading.proofs.Heads.{head_reads}
use Rattle.retyped.specs.Texts.{Span, HeadText}
use Rattle.retyped.specs.Twin.{Behind, check_behind, WasRead, check-read, SameBy, both_refused, both_read, Covered, typed, behind, InSome, Agree, Twin, Quiet, twin-map, twin_weaken, twin-read, twin-refused, twin-check, then_twin, quiet_check, quiet_bind, tail_same, plainly, reader-twin}
use Rattle.retyped.specs.Leaves.{HeadAlike, TextBytes, field_twin, little-twin, ruled, seven-twin, some-twin, text_here, text_is, text_there}

equal_heads : (t : Target) (h h' : Opening) → h ≡ h' → HeadAlike t h h'
equal_heads t h h' q = (ap (λ (o : Opening). o.1) q, ap (λ (o : Opening). length o.0) q, λ k. ap (λ (o : Opening). o.0) q)

module _ (f g : List ℕ) (small : Small f) (equal : length f ≡ length g) where
  whole_twin : {at : ℕ} (o o' : Answer (List ℕ)) → Quiet f g at o o' → Quiet f g at (whole f o) (whole g o')
  unfolding whole
  whole_twin o o' h = quiet_bind f g o o' (λ own e. read (own, stop) e) (λ own e. read (own, stop) e) h (λ own e q. twin-read f g refl)

  fixed_twin : (k at : ℕ) → Quiet f g at (fixed_head_at f k at) (fixed_head_at g k at)
  unfolding fixed_head_at fixed_at
  fixed_twin k at =
      let z = get_or sizes k 0 in
      quiet_check f g (ltb 0 z) 15 at (whole f (fixed_at f k z at)) (whole g (fixed_at g k z at))
      (λ t. whole_twin (fixed_at f k z at) (fixed_at g k z at) (field_twin f g small equal (some f z at) (some g z at) (rule k) (λ own. own) at at (some-twin f g small equal z at at)))

  char_twin : (at : ℕ) → Quiet f g at (head_at f char at) (head_at g char at)
  unfolding head_at whole own_at char_at
  char_twin at = reader-twin f g small equal (λ o bs. Head char o.0 o.1 bs) (λ file a. head_at file char a) (λ file. head_reads file char) (λ a q. rw q) at

  count_twin : (slots : ℕ → List Slot) (at : ℕ) → Quiet f g at (count_at f slots at) (count_at g slots at)
  unfolding count_at
  count_twin slots at = field_twin f g small equal (little_at f 4 at) (little_at g 4 at) always (λ n. ([], each (slots n))) at at (little-twin f g small equal 4 at at)

  image_twin : (at : ℕ) → Quiet f g at (image_at f at) (image_at g at)
  unfolding image_at
  image_twin at =
      (ruled f g small equal) (λ x. leb x 18) _ _ at (λ x e. ruled f g small equal (within 4096) _ _ e (λ w e₂. ruled f g small equal (within 4096) _ _ e₂ (λ h e₃.
      (ruled f g small equal) (within (digits 32 (max w h))) (λ n e₄. read (little 4 x ++ little 4 w ++ little 4 h, each (leaves (levels x w h n))) e₄)
      (λ n e₄. read (little 4 x ++ little 4 w ++ little 4 h, each (leaves (levels x w h n))) e₄) e₃ (λ n e₄. twin-read f g refl))))

  -- ---- A text

  module _ (n at e : ℕ) where
    abbrev own : List ℕ → List ℕ
    own file = take n (drop e file)

    -- its bytes, once its count is read
    abbrev Here : Span → Type 0
    Here x = TextBytes f n e x

    abbrev judged_text : List ℕ → Answer Opening
    judged_text file = check (utf8s (own file)) 15 at (read (own file, stop) (e + n))

    module _ (there : n ≤ length (drop e f)) where
      drops : length (drop e f) ≡ length (drop e g)
      drops = length-drop e f ∙ ap (λ (k : ℕ). k - e) equal ∙ sym (length-drop e g)

      long : length (own f) ≡ length (own g)
      long = length-take-le n (drop e f) there ∙ sym (length-take-le n (drop e g) (omega (arith, drops)))

      -- the first bytes are the same, or some are covered
      search : {A : Type 0} {o : Answer A} {T : Span → Type 0} → Agree f g T o e → (k : ℕ)
          → ((i : ℕ) → i < k → get_or f (e + i) 0 ≡ get_or g (e + i) 0) ⊎ ((i : ℕ) × (i < k) × Covered g T o (e + i))
      search h zero = inl (λ i l. absurd (omega arith))
      search {o = o} {T = T} h (suc k) = go (search h k) (h (e + k) (omega arith)) where
        go : ((i : ℕ) → i < k → get_or f (e + i) 0 ≡ get_or g (e + i) 0) ⊎ ((i : ℕ) × (i < k) × Covered g T o (e + i))
            → (get_or f (e + k) 0 ≡ get_or g (e + k) 0) ⊎ Covered g T o (e + k)
            → ((i : ℕ) → i < suc k → get_or f (e + i) 0 ≡ get_or g (e + i) 0) ⊎ ((i : ℕ) × (i < suc k) × Covered g T o (e + i))
        go (inr c) y = inr (c.0, omega (arith, c.1), c.2)
        go (inl s) (inr c) = inr (k, omega arith, c)
        go (inl s) (inl q) = inl (λ i l. last i l (ltb i k) refl) where
          last : (i : ℕ) → i < suc k → (b : Bool) → ltb i k ≡ b → get_or f (e + i) 0 ≡ get_or g (e + i) 0
          last i l true t = s i (ltb-true i k t)
          last i l false t = let z : i ≡ k = omega (arith, ltb-false i k t) in rw z q

      same_own : ((i : ℕ) → i < n → get_or f (e + i) 0 ≡ get_or g (e + i) 0) → own f ≡ own g
      same_own h = ext_get_or 0 (own f) (own g) long (λ i k.
          let l : i < n = omega (arith, length-take-le n (drop e f) there) in
          get_or-take n (drop e f) i 0 l ∙ get_or-drop e f i 0 ∙ h i l ∙ sym (get_or-drop e g i 0) ∙ sym (get_or-take n (drop e g) i 0 l))

      judged_twin : Twin f g (HeadAlike string) Here (λ x. TextBytes g n e x) e (judged_text f) (judged_text g)
      unfolding Behind check kind_of
      judged_twin = record {
        ahead = λ s b. let l : e + n ≤ s = check_behind (utf8s (own f)) 15 at (read (own f, stop) (e + n)) s b in omega arith;
        single = λ i x y j k w v. λ z. ((w.0 ∙ sym v.0) z, (w.1 ∙ sym v.1) z);
        lies = λ x w. (omega (arith, w.0), λ s b. let l : e + n ≤ s = check_behind (utf8s (own f)) 15 at (read (own f, stop) (e + n)) s b in omega (arith, w.0, w.1));
        same = λ h. by (utf8s (own f)) refl h;
        kept = λ h x w. (w.0, w.1, valid w.2 h);
        back = λ h x w. (w.0, w.1, invalid (utf8s (own f)) refl w.2 h);
        agreed = λ h i l. covered i (h i l);
      } where
        valid : utf8s (own f) ≡ true → Agree f g Here (judged_text f) e → utf8s (own g) ≡ true
        valid t h = go (search h n) where
          told : (i : ℕ) → i < n → Covered g Here (judged_text f) (e + i) → utf8s (own g) ≡ true
          told i l (typed x j w v) = utf8s-complete (own g) (rw (w.0, w.1) at v)
          told i l (behind b) =
              let m : e + n ≤ e + i = check_behind (utf8s (own f)) 15 at (read (own f, stop) (e + n)) (e + i) b in
              absurd (omega arith)

          go : ((i : ℕ) → i < n → get_or f (e + i) 0 ≡ get_or g (e + i) 0) ⊎ ((i : ℕ) × (i < n) × Covered g Here (judged_text f) (e + i)) → utf8s (own g) ≡ true
          go (inl s) = rw (← same_own s) t
          go (inr c) = told c.0 c.1 c.2

        -- where the first text is invalid, nothing is covered
        unread : utf8s (own f) ≡ false → Agree f g Here (judged_text f) e → own f ≡ own g
        unread t h = ap (take n) (tail_same f g equal e (λ i l. plainly f g i (λ x w. let z : true ≡ false = sym w.2 ∙ t in differ cc) (λ b. rw t at b) h l))

        invalid : (b : Bool) → utf8s (own f) ≡ b → utf8s (own g) ≡ true → Agree f g Here (judged_text f) e → utf8s (own f) ≡ true
        invalid true t u h = t
        invalid false t u h = ap utf8s (unread t h) ∙ u

        by : (b : Bool) → utf8s (own f) ≡ b → Agree f g Here (judged_text f) e → SameBy (HeadAlike string) (judged_text f) (judged_text g)
        by true t h = rw (t, valid t h) (both_read (refl, long, λ k. absurd (k refl)))
        by false t h = rw (← unread t h, t) both_refused

        -- the second reads a text there, or all, so it is valid
        second : (i : ℕ) → InSome (TextBytes g n e) i ⊎ WasRead (judged_text g) → utf8s (own g) ≡ true
        second i (inl s) = s.2.2
        second i (inr w) = check-read (utf8s (own g)) 15 at (read (own g, stop) (e + n)) w

        cover : (i : ℕ) → utf8s (own g) ≡ true → InSome Here i ⊎ Behind (judged_text f) i → Covered g Here (judged_text f) i
        cover i t (inl s) = let w = s.2 in typed s.0 s.1 w (rw (w.0, w.1) (utf8s-sound (own g) t))
        cover i t (inr b) = behind b

        covered : (i : ℕ) → (get_or f i 0 ≡ get_or g i 0) ⊎ ((InSome Here i ⊎ Behind (judged_text f) i) × (InSome (TextBytes g n e) i ⊎ WasRead (judged_text g)))
            → (get_or f i 0 ≡ get_or g i 0) ⊎ Covered g Here (judged_text f) i
        covered i (inl q) = inl q
        covered i (inr w) = inr (cover i (second i w.1) w.0)

  text_twin : (at : ℕ) → Twin f g (HeadAlike string) (HeadText f string at) (HeadText g string at) at (head_at f string at) (head_at g string at)
  unfolding head_at text_at
  text_twin at =
      twin-map f g (λ x w. text_here f at x w) (λ x w. text_there f at x w.0 w.1 w.2 w.3.0 w.3.1)
      (λ x w. text_here g at x w) (λ x w. text_there g at x w.0 w.1 w.2 w.3.0 w.3.1)
      (then_twin f g (λ n e x. (leb n (length (drop e f)) ≡ true) × TextBytes f n e x) (λ n e x. (leb n (length (drop e g)) ≡ true) × TextBytes g n e x) (seven_at f at) (seven_at g at)
      (λ n e. field f (some f n at) utf8s (λ own. (own, stop)) at e) (λ n e. field g (some g n at) utf8s (λ own. (own, stop)) at e)
      (seven-twin f g small equal at) (λ n e q. behind n e)) where
        behind : (n e : ℕ) → Twin f g (HeadAlike string) (λ x. (leb n (length (drop e f)) ≡ true) × TextBytes f n e x) (λ x. (leb n (length (drop e g)) ≡ true) × TextBytes g n e x) e
            (field f (some f n at) utf8s (λ own. (own, stop)) at e) (field g (some g n at) utf8s (λ own. (own, stop)) at e)
        behind n e =
            let l : length (drop e g) ≡ length (drop e f) = length-drop e g ∙ ap (λ (k : ℕ). k - e) (sym equal) ∙ sym (length-drop e f) in
            rw (text_is f n at e, text_is g n at e, l) (twin-check f g (leb n (length (drop e f))) 1 at (judged_text n at e f) (judged_text n at e g)
            (λ t. judged_twin n at e (leb-true n (length (drop e f)) t)))

  -- ---- Heads

  -- a head that is no text's
  quiet_head : (t : Target) (at : ℕ) → (t ≡ string → ⊥) → Quiet f g at (head_at f t at) (head_at g t at) → Twin f g (HeadAlike t) (HeadText f t at) (HeadText g t at) at (head_at f t at) (head_at g t at)
  unfolding HeadText
  quiet_head t at other h = twin-map f g (λ x w. absurd (other w.0)) (λ x w. absurd w) (λ x w. absurd (other w.0)) (λ x w. absurd w) (twin_weaken f g (equal_heads t) h)

  pub head-twin : (t : Target) (at : ℕ) → Twin f g (HeadAlike t) (HeadText f t at) (HeadText g t at) at (head_at f t at) (head_at g t at)
  unfolding head_at flag_at
  head-twin (fixed k) at = quiet_head (fixed k) at (λ e. differ cc) (fixed_twin k at)
  head-twin char at = quiet_head char at (λ e. differ cc) (char_twin at)
  head-twin string at = text_twin at
  head-twin object at = quiet_head object at (λ e. differ cc) (twin-refused f g)
  head-twin (enum name z) at = quiet_head (enum name z) at (λ e. differ cc) (whole_twin (some f z at at) (some g z at at) (some-twin f g small equal z at at))
  head-twin (nullable t) at =
      quiet_head (nullable t) at (λ e. differ cc) (field_twin f g small equal (some f 1 at) (some g 1 at) is_boolean (λ own. (own, flag_plan t own)) at at (some-twin f g small equal 1 at at))
  head-twin (array t) at = quiet_head (array t) at (λ e. differ cc) (count_twin (λ n. replicate n (slot_of t)) at)
  head-twin (list t) at = quiet_head (list t) at (λ e. differ cc) (count_twin (λ n. replicate n (slot_of t)) at)
  head-twin (dictionary k v) at = quiet_head (dictionary k v) at (λ e. differ cc) (count_twin (λ n. pairs n (slot_of k) (slot_of v)) at)
  head-twin texture at = quiet_head texture at (λ e. differ cc) (twin-refused f g)
  head-twin texture_2d at = quiet_head texture_2d at (λ e. differ cc) (image_twin at)
  head-twin sprite_font at = quiet_head sprite_font at (λ e. differ cc) (twin-read f g refl)
  head-twin page at = quiet_head page at (λ e. differ cc) (twin-read f g refl)
  head-twin (mesh m) at = quiet_head (mesh m) at (λ e. differ cc) (twin-read f g refl)

-- Matchers: bytes that begin with a form of a value are taken; for others it is told how many of them begin some form, and one more does not. Assumes nothing.
use Rattle.std.proofs.Math.Path.{◌≡◌, refl, sym, ap, subst}
use Rattle.std.proofs.Common.{◌∙◌, inl, inr, take-add, eqb-true, eq-eqb}
use Rattle.std.specs.Prelude.{Bool, true, false, ◌⊎◌, eqb, drop}
use mathlib.Core.List.{List, [], ◌∷◌, ◌++◌, append-nil, append_assoc}
use Prim.Native.Nat.{ℕ, zero, suc, ◌+◌, ◌-◌, ◌≤◌, ◌<◌, max}
use native.Mathlib.Omega.{arith}
use Rattle.std.proofs.Math.Decide.{dec_le}
use Rattle.std.proofs.Math.ListN.{length, take, length-append}
use Rattle.std.proofs.Math.Seq.{take-append-add, take-append_seam}
use Rattle.std.proofs.lemmas.Bool.{eqb-false}
use Rattle.xml_layout.specs.First.{Begins, FirstWrong}

pub data Match (A : Type 0) : Type 0 where
  fails : (agreed : ℕ) → Match A
  takes : (value : A) (rest : List ℕ) → Match A

-- no form, whatever follows it, agrees with these bytes
unfoldable pub Disagrees : {A : Type 0} → (A → List ℕ → Type 0) → List ℕ → Type 0
Disagrees {A} F bs = (a : A) (form rest more : List ℕ) → F a form → form ++ rest ≡ bs ++ more → ⊥

-- so many of the bytes agree with some form, and not one more
pub record Agreed {A : Type 0} (F : A → List ℕ → Type 0) (l : List ℕ) (n : ℕ) : Type 0 where
  pub within : n ≤ length l
  pub begins : Begins F (take n l)
  pub no_more : n < length l → Disagrees F (take (suc n) l)

-- what a matcher says of the bytes
pub data Told {A : Type 0} (F : A → List ℕ → Type 0) (l : List ℕ) : Match A → Type 0 where
  failed : {n : ℕ} → Agreed F l n → Told F l (fails n)
  taken : {a : A} {rest : List ℕ} (form : List ℕ) → F a form → l ≡ form ++ rest → Told F l (takes a rest)

-- the matcher of a language: what is written is taken, and what it tells is so
pub record Matches {A : Type 0} (F : A → List ℕ → Type 0) (m : List ℕ → Match A) : Type 0 where
  pub complete : (a : A) (form rest : List ℕ) → F a form → m (form ++ rest) ≡ takes a rest
  pub tells : (l : List ℕ) → Told F l (m l)

-- what agrees behind so many bytes
unfoldable pub shifted : {A : Type 0} → ℕ → Match A → Match A
shifted k (fails n) = fails (k + n)
shifted k (takes a rest) = takes a rest

-- ---- A literal

-- a byte more, where it is the literal's
unfoldable pub step : Bool → Match (Unit {0}) → Match (Unit {0})
step false m = fails 0
step true (fails n) = fails (suc n)
step true (takes u rest) = takes u rest

unfoldable pub literal : List ℕ → List ℕ → Match (Unit {0})
literal [] l = takes tt l
literal (x ∷ w) [] = fails 0
literal (x ∷ w) (b ∷ l) = step (eqb b x) (literal w l)

abbrev pub Is : List ℕ → Unit {0} → List ℕ → Type 0
Is w u bs = bs ≡ w

literal-complete : (w rest : List ℕ) → literal w (w ++ rest) ≡ takes tt rest
unfolding literal step
literal-complete [] rest = refl
literal-complete (x ∷ w) rest = rw (eq-eqb x x refl, literal-complete w rest)

first : {x y : ℕ} {l m : List ℕ} → x ∷ l ≡ y ∷ m → x ≡ y
first e = cc

rest_of : {x y : ℕ} {l m : List ℕ} → x ∷ l ≡ y ∷ m → l ≡ m
rest_of e = cc

step-tells : (x b : ℕ) (w l : List ℕ) (t : Bool) → eqb b x ≡ t → (m : Match (Unit {0})) → Told (Is w) l m → Told (Is (x ∷ w)) (b ∷ l) (step t m)
unfolding step Disagrees
step-tells x b w l false q m told = failed {n = 0} (record {
  within = omega arith;
  begins = record { value = tt; form = x ∷ w; more = x ∷ w; lays = refl; parts = refl };
  no_more = λ h a form rest more f e. eqb-false b x q (sym (first (ap (λ (k : List ℕ). k ++ rest) (sym f) ∙ e)));
})
step-tells x b w l true q m (failed {n = n} g) = failed {n = suc n} (record {
  within = omega (arith, g.within);
  begins = record { value = tt; form = x ∷ w; more = g.begins.more; lays = refl; parts = ap (λ (j : List ℕ). x ∷ j) (sym g.begins.lays ∙ g.begins.parts) ∙ ap (λ (j : ℕ). j ∷ (take n l ++ g.begins.more)) (sym (eqb-true b x q)) };
  no_more = λ h a form rest more f e. g.no_more (omega arith) tt w rest more refl (rest_of (ap (λ (k : List ℕ). k ++ rest) (sym f) ∙ e));
})
step-tells x b w l true q m (taken {rest = rest} form f e) = taken {rest = rest} (x ∷ w) refl (rw (eqb-true b x q, e, f))

literal-tells : (w l : List ℕ) → Told (Is w) l (literal w l)
unfolding literal Disagrees
literal-tells [] l = taken [] refl refl
literal-tells (x ∷ w) [] = failed {n = 0} (record {
  within = omega arith;
  begins = record { value = tt; form = x ∷ w; more = x ∷ w; lays = refl; parts = refl };
  no_more = λ h. absurd (omega arith);
})
literal-tells (x ∷ w) (b ∷ l) = step-tells x b w l (eqb b x) refl (literal w l) (literal-tells w l)

pub literal-matches : (w : List ℕ) → Matches (Is w) (literal w)
literal-matches w = record {
  complete = λ a form rest f. rw f (literal-complete w rest);
  tells = λ l. literal-tells w l;
}

-- ---- One after the other

unfoldable pub followed : {A B : Type 0} → (l : List ℕ) → Match A → (A → List ℕ → Match B) → Match B
followed l (fails n) k = fails n
followed l (takes a rest) k = shifted (length l - length rest) (k a rest)

-- a form and then a form of what it leads to
abbrev pub Then : {A B : Type 0} → (A → List ℕ → Type 0) → (A → B → List ℕ → Type 0) → B → List ℕ → Type 0
Then {A} F G b bs = (a : A) × (b₁ : List ℕ) × (b₂ : List ℕ) × (bs ≡ b₁ ++ b₂) × F a b₁ × G a b b₂

takes-value : {A : Type 0} {a b : A} {l r : List ℕ} → takes a l ≡ takes b r → a ≡ b
takes-value e = cc

takes-rest : {A : Type 0} {a b : A} {l r : List ℕ} → takes a l ≡ takes b r → l ≡ r
takes-rest e = cc

-- the bytes that agree behind a form
behind : (form r : List ℕ) (n : ℕ) → length (form ++ r) - length r + n ≡ length form + n
behind form r n = omega (arith, length-append form r)

take_behind : (form r : List ℕ) (n : ℕ) → take (length form + n) (form ++ r) ≡ form ++ take n r
take_behind form r n = take-append-add form r n

module _ {A B : Type 0} {F : A → List ℕ → Type 0} {m : List ℕ → Match A} {G : A → B → List ℕ → Type 0} {k : A → List ℕ → Match B}
    (x : Matches F m) (y : (a : A) → Matches (G a) (k a)) (leads : (a : A) → (b : B) × (form : List ℕ) × G a b form) where
  -- what was taken first is what any form begins with that agrees so far
  same_first : (a : A) (form : List ℕ) → F a form → (a' : A) (form' s t : List ℕ) → F a' form' → form' ++ s ≡ form ++ t → (a' ≡ a) × (s ≡ t)
  same_first a form f a' form' s t f' e =
      let q : takes a' s ≡ takes a t = sym (x.complete a' form' s f') ∙ ap m e ∙ x.complete a form t f in
      (takes-value q, takes-rest q)

  second_tells : (a : A) (form r : List ℕ) → F a form → (o : Match B) → Told (G a) r o → Told (Then F G) (form ++ r) (shifted (length (form ++ r) - length r) o)
  unfolding shifted Disagrees
  second_tells a form r f o (failed {n = n} g) =
      let z = behind form r n in
      failed {n = length (form ++ r) - length r + n} (record {
        within = omega (arith, z, g.within, length-append form r);
        begins = rw (z, take_behind form r n) (record {
          value = g.begins.value;
          form = form ++ g.begins.form;
          more = g.begins.more;
          lays = (a, form, g.begins.form, refl, f, g.begins.lays);
          parts = ap (λ (l : List ℕ). form ++ l) g.begins.parts ∙ sym (append_assoc form (take n r) g.begins.more);
        });
        no_more = λ h b bs rest more w e.
            let s : suc (length (form ++ r) - length r + n) ≡ length form + suc n = omega (arith, z) in
            let e' : w.1 ++ (w.2 ++ rest) ≡ form ++ (take (suc n) r ++ more)
            = sym (append_assoc w.1 w.2 rest) ∙ ap (λ (l : List ℕ). l ++ rest) (sym w.3) ∙ e
            ∙ ap (λ (l : List ℕ). l ++ more) (ap (λ (j : ℕ). take j (form ++ r)) s ∙ take_behind form r (suc n)) ∙ append_assoc form (take (suc n) r) more in
            let q = same_first a form f w.0 w.1 (w.2 ++ rest) (take (suc n) r ++ more) w.4 e' in
            g.no_more (omega (arith, z, length-append form r)) b w.2 rest more (subst (λ (c : A). G c b w.2) q.0 w.5) q.1;
      })
  second_tells a form r f o (taken {rest = rest} form' f' e) =
      taken (form ++ form') (a, form, form', refl, f, f') (ap (λ (l : List ℕ). form ++ l) e ∙ sym (append_assoc form form' rest))

  first_tells : (l : List ℕ) (o : Match A) → Told F l o → Told (Then F G) l (followed l o k)
  unfolding followed Disagrees
  first_tells l o (failed {n = n} g) = failed {n = n} (record {
    within = g.within;
    begins = let v = leads g.begins.value in record {
      value = v.0;
      form = g.begins.form ++ v.1;
      more = g.begins.more ++ v.1;
      lays = (g.begins.value, g.begins.form, v.1, refl, g.begins.lays, v.2);
      parts = ap (λ (l : List ℕ). l ++ v.1) g.begins.parts ∙ append_assoc (take n l) g.begins.more v.1;
    };
    no_more = λ h b bs rest more w e.
        g.no_more h w.0 w.1 (w.2 ++ rest) more w.4 (sym (append_assoc w.1 w.2 rest) ∙ ap (λ (l : List ℕ). l ++ rest) (sym w.3) ∙ e);
  })
  first_tells l o (taken {a = a} {rest = rest} form f e) =
      subst (λ (j : List ℕ). Told (Then F G) j (shifted (length j - length rest) (k a rest))) (sym e) (second_tells a form rest f (k a rest) ((y a).tells rest))

  pub then_matches : Matches (Then F G) (λ l. followed l (m l) k)
  unfolding followed shifted
  then_matches = record {
    complete = λ b bs rest w.
        let e : bs ++ rest ≡ w.1 ++ (w.2 ++ rest) = ap (λ (l : List ℕ). l ++ rest) w.3 ∙ append_assoc w.1 w.2 rest in
        rw (e, x.complete w.0 w.1 (w.2 ++ rest) w.4, (y w.0).complete b w.2 rest w.5);
    tells = λ l. first_tells l (m l) (x.tells l);
  }

-- ---- Forms one after the other, until a literal

-- forms of values, and then the literal
unfoldable pub Until : {A : Type 0} → (A → List ℕ → Type 0) → (w : List ℕ) → List A → List ℕ → Type 0
Until U w [] bs = bs ≡ w
Until U w (a ∷ vs) bs = (b₁ : List ℕ) × (b₂ : List ℕ) × (bs ≡ b₁ ++ b₂) × U a b₁ × Until U w vs b₂

unfoldable pub before : {A : Type 0} → A → Match (List A) → Match (List A)
before a (fails n) = fails n
before a (takes vs rest) = takes (a ∷ vs) rest

-- the literal, or a form and what follows it; where neither is taken, as many bytes agree as with the one that agrees longer
unfoldable pub one_of : {A : Type 0} → (l : List ℕ) → Match (Unit {0}) → Match A → (List ℕ → Match (List A)) → Match (List A)
one_of l (takes u rest) y k = takes [] rest
one_of l (fails n) (takes a rest) k = shifted (length l - length rest) (before a (k rest))
one_of l (fails n) (fails m) k = fails (max n m)

-- every form takes a byte, so more steps than bytes are enough
unfoldable pub until_in : {A : Type 0} → (u : List ℕ → Match A) → (w : List ℕ) → (steps : ℕ) → List ℕ → Match (List A)
until_in u w zero l = fails 0
until_in u w (suc steps) l = one_of l (literal w l) (u l) (λ rest. until_in u w steps rest)

unfoldable pub until : {A : Type 0} → (u : List ℕ → Match A) → (w : List ℕ) → List ℕ → Match (List A)
until u w l = until_in u w (suc (length l)) l

-- more bytes that agree disagree with what fewer disagree with
disagrees_longer : (A : Type 0) (F : A → List ℕ → Type 0) (l : List ℕ) (n m : ℕ) → n ≤ m → Disagrees F (take (suc n) l) → Disagrees F (take (suc m) l)
unfolding Disagrees
disagrees_longer A F l n m h d a form rest more f e =
    let z : suc m ≡ suc n + (m - n) = omega arith in
    let t : take (suc m) l ≡ take (suc n) l ++ take (m - n) (drop (suc n) l) = ap (λ (j : ℕ). take j l) z ∙ take-add (suc n) (m - n) l in
    d a form rest (take (m - n) (drop (suc n) l) ++ more) f (e ∙ ap (λ (k : List ℕ). k ++ more) t ∙ append_assoc (take (suc n) l) (take (m - n) (drop (suc n) l)) more)

module _ {A : Type 0} {U : A → List ℕ → Type 0} {u : List ℕ → Match A} (w : List ℕ) (x : Matches U u)
    (apart : (a : A) (form rest more : List ℕ) → U a form → form ++ rest ≡ w ++ more → ⊥) (some : (a : A) (form : List ℕ) → U a form → 1 ≤ length form) where
  not_the_literal : (l : List ℕ) (o : Match (Unit {0})) → Told (Is w) l o → ((rest : List ℕ) → l ≡ w ++ rest → ⊥) → (a : A) (rest : List ℕ) (k : List ℕ → Match (List A))
      → one_of l o (takes a rest) k ≡ shifted (length l - length rest) (before a (k rest))
  unfolding one_of
  not_the_literal l o (failed g) d a rest k = refl
  not_the_literal l o (taken {rest = r} form f e) d a rest k = absurd (d r (e ∙ ap (λ (j : List ℕ). j ++ r) f))

  until_complete : (vs : List A) (form rest : List ℕ) (steps : ℕ) → length (form ++ rest) < steps → Until U w vs form → until_in u w steps (form ++ rest) ≡ takes vs rest
  unfolding until_in Until one_of before shifted
  until_complete vs form rest zero h f = absurd (omega arith)
  until_complete [] form rest (suc steps) h f = rw (f, literal-complete w rest)
  until_complete (a ∷ vs) form rest (suc steps) h f =
      let b₁ = f.0 in
      let b₂ = f.1 in
      let e : form ++ rest ≡ b₁ ++ (b₂ ++ rest) = ap (λ (l : List ℕ). l ++ rest) f.2 ∙ append_assoc b₁ b₂ rest in
      let l = b₁ ++ (b₂ ++ rest) in
      let k : length (b₂ ++ rest) < steps = omega (arith, ap length e, length-append b₁ (b₂ ++ rest), some a b₁ f.3) in
      let r : until_in u w steps (b₂ ++ rest) ≡ takes vs rest = until_complete vs b₂ rest steps k f.4 in
      let n : one_of l (literal w l) (takes a (b₂ ++ rest)) (λ j. until_in u w steps j) ≡ shifted (length l - length (b₂ ++ rest)) (before a (until_in u w steps (b₂ ++ rest)))
      = not_the_literal l (literal w l) (literal-tells w l) (λ j q. apart a b₁ (b₂ ++ rest) j f.3 q) a (b₂ ++ rest) (λ j. until_in u w steps j) in
      rw (e, x.complete a b₁ (b₂ ++ rest) f.3, n, r)

  same_form : (a : A) (form : List ℕ) → U a form → (a' : A) (form' s t : List ℕ) → U a' form' → form' ++ s ≡ form ++ t → (a' ≡ a) × (s ≡ t)
  same_form a form f a' form' s t f' e =
      let q : takes a' s ≡ takes a t = sym (x.complete a' form' s f') ∙ ap u e ∙ x.complete a form t f in
      (takes-value q, takes-rest q)

  -- what agrees behind a form, where that begins forms and the literal
  no_more_behind : (a : A) (form : List ℕ) → U a form → (bs : List ℕ) → Disagrees (Until U w) bs → (vs : List A) (whole rest more : List ℕ)
      → Until U w vs whole → whole ++ rest ≡ (form ++ bs) ++ more → ⊥
  unfolding Disagrees Until
  no_more_behind a form f bs d [] whole rest more v e =
      apart a form (bs ++ more) rest f (sym (ap (λ (j : List ℕ). j ++ rest) (sym v) ∙ e ∙ append_assoc form bs more))
  no_more_behind a form f bs d (a' ∷ vs) whole rest more v e =
      let e' : v.0 ++ (v.1 ++ rest) ≡ form ++ (bs ++ more)
      = sym (append_assoc v.0 v.1 rest) ∙ ap (λ (j : List ℕ). j ++ rest) (sym v.2) ∙ e ∙ append_assoc form bs more in
      d vs v.1 rest more v.4 (same_form a form f a' v.0 (v.1 ++ rest) (bs ++ more) v.3 e').1

  neither : (bs : List ℕ) → Disagrees (Is w) bs → Disagrees U bs → (vs : List A) (whole rest more : List ℕ) → Until U w vs whole → whole ++ rest ≡ bs ++ more → ⊥
  unfolding Disagrees Until
  neither bs d₁ d₂ [] whole rest more v e = d₁ tt whole rest more v e
  neither bs d₁ d₂ (a ∷ vs) whole rest more v e =
      d₂ a v.0 (v.1 ++ rest) more v.3 (sym (append_assoc v.0 v.1 rest) ∙ ap (λ (j : List ℕ). j ++ rest) (sym v.2) ∙ e)

  begins_literal : (bs : List ℕ) → Begins (Is w) bs → Begins (Until U w) bs
  unfolding Until
  begins_literal bs b = record { value = []; form = b.form; more = b.more; lays = b.lays; parts = b.parts }

  begins_form : (bs : List ℕ) → Begins U bs → Begins (Until U w) bs
  unfolding Until
  begins_form bs b = record {
    value = b.value ∷ [];
    form = b.form ++ w;
    more = b.more ++ w;
    lays = (b.form, w, refl, b.lays, refl);
    parts = ap (λ (j : List ℕ). j ++ w) b.parts ∙ append_assoc bs b.more w;
  }

  behind_tells : (a : A) (form r : List ℕ) → U a form → (o : Match (List A)) → Told (Until U w) r o
      → Told (Until U w) (form ++ r) (shifted (length (form ++ r) - length r) (before a o))
  unfolding shifted before Disagrees Until
  behind_tells a form r f o (failed {n = n} g) =
      let z = behind form r n in
      let s : suc (length (form ++ r) - length r + n) ≡ length form + suc n = omega (arith, z) in
      failed {n = length (form ++ r) - length r + n} (record {
        within = omega (arith, z, g.within, length-append form r);
        begins = rw (z, take_behind form r n) (record {
          value = a ∷ g.begins.value;
          form = form ++ g.begins.form;
          more = g.begins.more;
          lays = (form, g.begins.form, refl, f, g.begins.lays);
          parts = ap (λ (l : List ℕ). form ++ l) g.begins.parts ∙ sym (append_assoc form (take n r) g.begins.more);
        });
        no_more = λ h vs whole rest more v e.
            no_more_behind a form f (take (suc n) r) (g.no_more (omega (arith, z, length-append form r))) vs whole rest more v
            (e ∙ ap (λ (l : List ℕ). l ++ more) (ap (λ (j : ℕ). take j (form ++ r)) s ∙ take_behind form r (suc n)));
      })
  behind_tells a form r f o (taken {a = vs} {rest = rest} form' v e) =
      taken {a = a ∷ vs} (form ++ form') (form, form', refl, f, v) (ap (λ (l : List ℕ). form ++ l) e ∙ sym (append_assoc form form' rest))

  agreed_max : (l : List ℕ) (n m : ℕ) → Agreed (Is w) l n → Agreed U l m → Agreed (Until U w) l (max n m)
  unfolding Disagrees
  agreed_max l n m g₁ g₂ = go (dec_le n m) where
    none : (k : ℕ) → n ≤ k → m ≤ k → k < length l → Disagrees (Until U w) (take (suc k) l)
    none k p q h vs whole rest more v e =
        neither (take (suc k) l) (disagrees_longer (Unit {0}) (Is w) l n k p (g₁.no_more (omega arith))) (disagrees_longer A U l m k q (g₂.no_more (omega arith))) vs whole rest more v e

    go : Dec (n ≤ m) → Agreed (Until U w) l (max n m)
    go (yes h) =
        let z : max n m ≡ m = omega arith in
        rw z (record { within = g₂.within; begins = begins_form (take m l) g₂.begins; no_more = none m h (omega arith) })
    go (no h) =
        let z : max n m ≡ n = omega arith in
        rw z (record { within = g₁.within; begins = begins_literal (take n l) g₁.begins; no_more = none n (omega arith) (omega arith) })

  one_tells : (l : List ℕ) (steps : ℕ) → length l < suc steps → (o : Match (Unit {0})) → Told (Is w) l o → (p : Match A) → Told U l p
      → ((rest : List ℕ) → length rest < steps → Told (Until U w) rest (until_in u w steps rest)) → Told (Until U w) l (one_of l o p (λ rest. until_in u w steps rest))
  unfolding one_of Until
  one_tells l steps h o (taken {rest = rest} form f e) p q k = taken {a = []} form f e
  one_tells l steps h o (failed {n = n} g₁) p (failed {n = m} g₂) k = failed (agreed_max l n m g₁ g₂)
  one_tells l steps h o (failed {n = n} g₁) p (taken {a = a} {rest = r} form f e) k =
      let less : length r < steps = omega (arith, ap length e, length-append form r, some a form f) in
      subst (λ (j : List ℕ). Told (Until U w) j (shifted (length j - length r) (before a (until_in u w steps r)))) (sym e) (behind_tells a form r f (until_in u w steps r) (k r less))

  until_tells : (steps : ℕ) (l : List ℕ) → length l < steps → Told (Until U w) l (until_in u w steps l)
  unfolding until_in
  until_tells zero l h = absurd (omega arith)
  until_tells (suc steps) l h = one_tells l steps h (literal w l) (literal-tells w l) (u l) (x.tells l) (λ rest k. until_tells steps rest k)

  pub until-matches : Matches (Until U w) (until u w)
  unfolding until
  until-matches = record {
    complete = λ vs form rest f. until_complete vs form rest (suc (length (form ++ rest))) (omega arith) f;
    tells = λ l. until_tells (suc (length l)) l (omega arith);
  }

-- ---- The same bytes under another name, and one of two languages

unfoldable pub mapped : {A B : Type 0} → (A → B) → Match A → Match B
mapped f (fails n) = fails n
mapped f (takes a rest) = takes (f a) rest

module _ {A B : Type 0} {F : A → List ℕ → Type 0} {m : List ℕ → Match A} (f : A → B) (G : B → List ℕ → Type 0) (x : Matches F m)
    (to : (a : A) (bs : List ℕ) → F a bs → G (f a) bs) (back : (b : B) (bs : List ℕ) → G b bs → (a : A) × F a bs × (b ≡ f a)) where
  mapped_tells : (l : List ℕ) (o : Match A) → Told F l o → Told G l (mapped f o)
  unfolding mapped Disagrees
  mapped_tells l o (failed {n = n} g) = failed {n = n} (record {
    within = g.within;
    begins = record {
      value = f g.begins.value;
      form = g.begins.form;
      more = g.begins.more;
      lays = to g.begins.value g.begins.form g.begins.lays;
      parts = g.begins.parts;
    };
    no_more = λ h b form rest more w e. let v = back b form w in g.no_more h v.0 form rest more v.1 e;
  })
  mapped_tells l o (taken {a = a} form w e) = taken {a = f a} form (to a form w) e

  pub mapped-matches : Matches G (λ l. mapped f (m l))
  unfolding mapped
  mapped-matches = record {
    complete = λ b form rest w. let v = back b form w in ap (mapped f) (x.complete v.0 form rest v.1) ∙ ap (λ (c : B). takes c rest) (sym v.2);
    tells = λ l. mapped_tells l (m l) (x.tells l);
  }

-- the same matcher for a language that says the same
module _ {A : Type 0} {F : A → List ℕ → Type 0} {m : List ℕ → Match A} (G : A → List ℕ → Type 0) (x : Matches F m)
    (to : (a : A) (bs : List ℕ) → F a bs → G a bs) (back : (a : A) (bs : List ℕ) → G a bs → F a bs) where
  same_tells : (l : List ℕ) (o : Match A) → Told F l o → Told G l o
  unfolding Disagrees
  same_tells l o (failed {n = n} g) = let b = g.begins in failed {n = n} (record {
    within = g.within;
    begins = record { value = b.value; form = b.form; more = b.more; lays = to b.value b.form b.lays; parts = b.parts };
    no_more = λ h a form rest more w e. g.no_more h a form rest more (back a form w) e;
  })
  same_tells l o (taken {a = a} form w e) = taken {a = a} form (to a form w) e

  pub same_matches : Matches G m
  same_matches = record { complete = λ a form rest w. x.complete a form rest (back a form w); tells = λ l. same_tells l (m l) (x.tells l) }

unfoldable pub or_else : {A : Type 0} → Match A → Match A → Match A
or_else (takes a rest) y = takes a rest
or_else (fails n) (takes a rest) = takes a rest
or_else (fails n) (fails m) = fails (max n m)

abbrev pub Or : {A : Type 0} → (F G : A → List ℕ → Type 0) → A → List ℕ → Type 0
Or F G a bs = F a bs ⊎ G a bs

module _ {A : Type 0} {F G : A → List ℕ → Type 0} {m k : List ℕ → Match A} (x : Matches F m) (y : Matches G k)
    (apart : (a b : A) (form other rest more : List ℕ) → F a form → G b other → form ++ rest ≡ other ++ more → ⊥) where
  or_max : (l : List ℕ) (n p : ℕ) → Agreed F l n → Agreed G l p → Agreed (Or F G) l (max n p)
  unfolding Disagrees
  or_max l n p g₁ g₂ = go (dec_le n p) where
    none : (j : ℕ) → n ≤ j → p ≤ j → j < length l → Disagrees (Or F G) (take (suc j) l)
    none j h₁ h₂ h a form rest more (inl w) e = disagrees_longer A F l n j h₁ (g₁.no_more (omega arith)) a form rest more w e
    none j h₁ h₂ h a form rest more (inr w) e = disagrees_longer A G l p j h₂ (g₂.no_more (omega arith)) a form rest more w e

    go : Dec (n ≤ p) → Agreed (Or F G) l (max n p)
    go (yes h) =
        let z : max n p ≡ p = omega arith in
        let b = g₂.begins in
        rw z (record { within = g₂.within; begins = record { value = b.value; form = b.form; more = b.more; lays = inr b.lays; parts = b.parts }; no_more = none p h (omega arith) })
    go (no h) =
        let z : max n p ≡ n = omega arith in
        let b = g₁.begins in
        rw z (record { within = g₁.within; begins = record { value = b.value; form = b.form; more = b.more; lays = inl b.lays; parts = b.parts }; no_more = none n (omega arith) (omega arith) })

  or_tells : (l : List ℕ) (o p : Match A) → Told F l o → Told G l p → Told (Or F G) l (or_else o p)
  unfolding or_else
  or_tells l o p (taken {a = a} form w e) q = taken {a = a} form (inl w) e
  or_tells l o p (failed {n = n} g₁) (taken {a = a} form w e) = taken {a = a} form (inr w) e
  or_tells l o p (failed {n = n} g₁) (failed {n = j} g₂) = failed (or_max l n j g₁ g₂)

  or_second : (a : A) (form rest : List ℕ) → G a form → (o : Match A) → Told F (form ++ rest) o → or_else o (takes a rest) ≡ takes a rest
  unfolding or_else
  or_second a form rest w o (failed g) = refl
  or_second a form rest w o (taken {a = b} {rest = more} other v e) = absurd (apart b a other form more rest v w (sym e))

  or_complete : (a : A) (form rest : List ℕ) → Or F G a form → or_else (m (form ++ rest)) (k (form ++ rest)) ≡ takes a rest
  unfolding or_else
  or_complete a form rest (inl w) = rw (x.complete a form rest w)
  or_complete a form rest (inr w) = rw (y.complete a form rest w) (or_second a form rest w (m (form ++ rest)) (x.tells (form ++ rest)))

  pub or_matches : Matches (Or F G) (λ l. or_else (m l) (k l))
  or_matches = record { complete = or_complete; tells = λ l. or_tells l (m l) (k l) (x.tells l) (y.tells l) }

-- ---- A whole document

-- where nothing is left over
pub data Document (A : Type 0) : Type 0 where
  other : (place : ℕ) → Document A
  document : A → Document A

unfoldable pub whole : {A : Type 0} → (l : List ℕ) → Match A → Document A
whole l (fails n) = other n
whole l (takes a []) = document a
whole l (takes a (b ∷ rest)) = other (length l - length (b ∷ rest))

-- there is one such place at most
pub one_place : {A : Type 0} {F : A → List ℕ → Type 0} {l : List ℕ} {n m : ℕ} → FirstWrong F l n → FirstWrong F l m → n < m → ⊥
one_place {l = l} {n = n} {m = m} f g h =
    let z : m ≡ suc n + (m - suc n) = omega arith in
    let t : take m l ≡ take (suc n) l ++ take (m - suc n) (drop (suc n) l) = ap (λ (j : ℕ). take j l) z ∙ take-add (suc n) (m - suc n) l in
    f.no_more (omega (arith, g.within)) (record {
      value = g.begins.value;
      form = g.begins.form;
      more = take (m - suc n) (drop (suc n) l) ++ g.begins.more;
      lays = g.begins.lays;
      parts = g.begins.parts ∙ ap (λ (j : List ℕ). j ++ g.begins.more) t ∙ append_assoc (take (suc n) l) (take (m - suc n) (drop (suc n) l)) g.begins.more;
    })

module _ {A : Type 0} {F : A → List ℕ → Type 0} {m : List ℕ → Match A} (x : Matches F m) where
  -- what is written is taken whole
  pub takes-written : (a : A) (l : List ℕ) → F a l → whole l (m l) ≡ document a
  unfolding whole
  takes-written a l f =
      let q : m l ≡ takes a [] = ap m (sym (append-nil l)) ∙ x.complete a l [] f in
      rw q

  -- and what is not is refused at the first place where no document agrees
  pub data Judged (l : List ℕ) : Document A → Type 0 where
    is_other : {n : ℕ} → FirstWrong F l n → Judged l (other n)
    is_document : {a : A} → F a l → Judged l (document a)

  written_judged : (l : List ℕ) (o : Match A) → m l ≡ o → Told F l o → Judged l (whole l o)
  unfolding whole Disagrees
  written_judged l o q (failed {n = n} g) = is_other {n = n} (record {
    within = g.within;
    begins = g.begins;
    no_more = λ h b. g.no_more h b.value b.form [] b.more b.lays (append-nil b.form ∙ b.parts);
    none = λ a f. let e : fails n ≡ takes a [] = sym q ∙ ap m (sym (append-nil l)) ∙ x.complete a l [] f in let z : ◌≡◌ {A = ℕ} 0 1 = cc in absurd (omega arith);
  })
  written_judged l o q (taken {a = a} {rest = []} form f e) = is_document {a = a} (rw (e ∙ append-nil form) f)
  written_judged l o q (taken {a = a} {rest = b ∷ rest} form f e) =
      let z : length l - length (b ∷ rest) ≡ length form = omega (arith, ap length e, length-append form (b ∷ rest)) in
      rw z (is_other {n = length form} (record {
        within = omega (arith, ap length e, length-append form (b ∷ rest));
        begins = record { value = a; form = form; more = []; lays = f; parts = rw (e, take-append_seam) (sym (append-nil form)) };
        no_more = λ h v.
            let n : suc (length form) ≡ length form + 1 = omega arith in
            let t : take (suc (length form)) l ≡ form ++ (b ∷ []) = ap (take (suc (length form))) e ∙ ap (λ (j : ℕ). take j (form ++ (b ∷ rest))) n ∙ take-append-add form (b ∷ rest) 1 in
            let s : v.form ++ [] ≡ form ++ (b ∷ v.more)
            = append-nil v.form ∙ v.parts ∙ ap (λ (j : List ℕ). j ++ v.more) t ∙ append_assoc form (b ∷ []) v.more in
            let p : takes v.value [] ≡ takes a (b ∷ v.more) = sym (x.complete v.value v.form [] v.lays) ∙ ap m s ∙ x.complete a form (b ∷ v.more) f in
            let y : [] ≡ b ∷ v.more = takes-rest p in let z : ◌≡◌ {A = ℕ} 0 1 = cc in absurd (omega arith);
        none = λ a' f'. let p : takes a (b ∷ rest) ≡ takes a' [] = sym q ∙ ap m (sym (append-nil l)) ∙ x.complete a' l [] f' in
            let y : b ∷ rest ≡ [] = takes-rest p in let z : ◌≡◌ {A = ℕ} 0 1 = cc in absurd (omega arith);
      }))

  pub judged : (l : List ℕ) → Judged l (whole l (m l))
  judged l = written_judged l (m l) refl (x.tells l)

-- What the parser's steps come to. Assumes nothing.
use mathlib.Core.Path.{◌≡◌, refl, sym, ap, ◌∙◌}
use mathlib.Core.Bool.{Bool, true, false, cond}
use mathlib.Core.List.{List, [], ◌∷◌, ◌++◌}
use Prim.Native.Nat.{ℕ, zero, suc, ◌+◌, ◌-◌, ◌≤◌}
use native.Mathlib.Omega.{arith}
use lib.Dec.{eqb}
use Prim.Native.Char.{code}
use lib.ListN.{length, take, drop, set, length-append, length-drop}
use lib.Seq.{sets, length-take-le}
use Rattle.laws.specs.Small.{differ}
use Rattle.layout.specs.Text.{ascii}
use Rattle.layout.specs.Name.{Name, Tail, none, some, simple, one, two, head_byte, long}
use Rattle.layout.specs.EnumList.{EnumEntry}
use Rattle.std.specs.Prelude.{Result, Ok as Result-ok, Err}
use Rattle.answers.specs.declared.Refusal.{Refusal}
use Rattle.answers.specs.declared.Rule.{Rule}
use Rattle.answers.specs.declared.Rule.TheVariants.{HeadByte, ArgumentBrackets}
use Rattle.answers.specs.Refusals.{refusal, number_of}
use Rattle.names.specs.declared.parse.Parsed.{Parsed}
use Rattle.names.specs.Parse.{Read, broken, name, span, starts, common, tail_of, ended, wrong_by, wrong, behind, missing, closed, opening, unopened_number, unopened_at, on_only, on_second, on_first, after_head, headed, name_in}
use Rattle.names.specs.Complete.{length-write}
use Rattle.names.specs.Sound.{Ok, NameStands, span_le, sound}
use Rattle.names.specs.Contract.{rule_by, rule_of, rule_behind, parsed, answer, met, Parses, arguments, tailed, passed, tailed_after, closing}
use borrow.Author.Tests.{eq-eqb, ne_eqb, eqb-true, eqb-false}
use Rattle.names.specs.Common.{starts-common}
use Rattle.names.proofs.Laws.{starts-fits}
use Rattle.names.specs.Codes.{heads_few, codes-append, codes-length}
use Rattle.names.specs.Heading.{Heading, heading, headings}
use Rattle.names.specs.Kind.{codes, word, kind_in}

-- the numbers of rules
number_by : (bare : Rule) (t : Tail) → number_of (rule_by bare t) ≡ wrong_by (number_of bare) t
unfolding rule_by wrong_by
number_by bare none = refl
number_by bare (some t) = refl

pub wrong_number : (n : Name) → number_of (rule_of n) ≡ wrong n
unfolding rule_of wrong
wrong_number (simple h t) = number_by HeadByte t
wrong_number (one h a t) = number_by ArgumentBrackets t
wrong_number (two h a b t) = number_by ArgumentBrackets t

behind_number : (other : Rule) (s : List ℕ) → number_of (rule_behind other s) ≡ behind (number_of other) s
unfolding rule_behind behind
behind_number other [] = refl
behind_number other (b ∷ s) = go (eqb b (code "]")) where
  go : (x : Bool) → number_of (cond x ArgumentBrackets other) ≡ cond x 36 (number_of other)
  go true = refl
  go false = refl

behind_wrong : (n : Name) (s : List ℕ) → number_of (rule_behind (rule_of n) s) ≡ behind (wrong n) s
behind_wrong n s = behind_number (rule_of n) s ∙ ap (λ (k : ℕ). behind k s) (wrong_number n)

-- what follows a head: at most 3, and four bytes where arguments are opened
abbrev by : (a b c : Bool) → ℕ
by a b c = cond a 1 (cond b 2 (cond c 3 0))

opens : (s : List ℕ) (h : ℕ) (a b c : Bool) → starts (ascii "`1[[") (drop h s) ≡ a → starts (ascii "`2[[") (drop h s) ≡ b → h ≤ length s
    → (by a b c ≤ 3) × ((by a b c ≡ 0 → ⊥) → (by a b c ≡ 3 → ⊥) → h + 4 ≤ length s)
unfolding ascii
opens s h true b c p q l = (omega arith, λ _ _. starts-fits _ s h l p)
opens s h false true c p q l = (omega arith, λ _ _. starts-fits _ s h l q)
opens s h false false true p q l = (omega arith, λ _ z. absurd (z refl))
opens s h false false false p q l = (omega arith, λ z _. absurd (z refl))

args_as : (o : ℕ) (r : Refusal) (b : Bool) → eqb o 3 ≡ b → (n : ℕ) → cond b (Err r) (Result-ok o) ≡ Result-ok n → (n ≡ o) × (n ≡ 3 → ⊥)
args_as o r true q n e = differ cc
args_as o r false q n e = let z : o ≡ n = cc in (sym z, λ w. eqb-false o 3 q (z ∙ w))

fault_as : (o : ℕ) (r : Refusal) (b : Bool) → eqb o 3 ≡ b → (x : Refusal) → cond b (Err r) (Result-ok o) ≡ Err x → (x ≡ r) × (o ≡ 3)
fault_as o r true q x e = let z : x ≡ r = cc in (z, eqb-true o 3 q)
fault_as o r false q x e = differ cc

module _ (at : ℕ) (s : List ℕ) (h : ℕ) where
  pub opens_none : {x : Refusal} → arguments at h s ≡ Err x → (x ≡ refusal (unopened_number (drop h s)) (at + (h + unopened_at (drop h s)))) × (opening (drop h s) ≡ 3)
  opens_none {x} e = fault_as (opening (drop h s)) _ (eqb (opening (drop h s)) 3) refl x e

  module _ {n : ℕ} (e : arguments at h s ≡ Result-ok n) where
    pub opening_is : n ≡ opening (drop h s)
    opening_is = (args_as (opening (drop h s)) _ (eqb (opening (drop h s)) 3) refl n e).0

    opening-few : n ≡ 3 → ⊥
    opening-few = (args_as (opening (drop h s)) _ (eqb (opening (drop h s)) 3) refl n e).1

    module _ (head : h ≡ span head_byte s) where
      fits : h ≤ length s
      fits = omega (arith, span_le head_byte s)

      opening_bounds : (n ≤ 3) × ((n ≡ 0 → ⊥) → (n ≡ 3 → ⊥) → h + 4 ≤ length s)
      unfolding opening
      opening_bounds = rw opening_is (opens s h _ _ (starts (ascii "`") (drop h s)) refl refl fits)

      pub opening-small : n ≤ 2
      opening-small = omega (arith, opening_bounds.0, opening-few)

      pub opening-fits : (n ≡ 0 → ⊥) → h + 4 ≤ length s
      opening-fits f = opening_bounds.1 f opening-few

-- how a name opens
pub too_deep : (l at : ℕ) (s : List ℕ) → l ≡ 0 → name_in l at s ≡ broken 38 at []
unfolding name_in
too_deep l at s e = rw e

module _ (l at : ℕ) (s : List ℕ) (h : ℕ) (some : l ≡ 0 → ⊥) (e : h ≡ span head_byte s) where
  one_less : name_in l at s ≡ headed (name_in (l - 1)) at s h
  unfolding name_in
  one_less =
      let z : l ≡ suc (l - 1) = omega (arith, some) in
      ap (λ (k : ℕ). name_in k at s) z ∙ ap (headed (name_in (l - 1)) at s) (sym e)

  pub headless : h ≡ 0 → name_in l at s ≡ broken 33 at []
  unfolding headed
  headless z = one_less ∙ rw z

  pub opened : (h ≡ 0 → ⊥) → (n : ℕ) → n ≡ opening (drop h s) → name_in l at s ≡ after_head (name_in (l - 1)) at s h n
  unfolding headed
  opened f n q =
      let z : h ≡ suc (h - 1) = omega arith in
      one_less ∙ ap (headed (name_in (l - 1)) at s) z ∙ ap (λ (k : ℕ). after_head (name_in (l - 1)) at s k (opening (drop k s))) (sym z) ∙ ap (after_head (name_in (l - 1)) at s h) (sym q)

-- what a call on `&s[a..]` answers, whose first byte is at `at`
pub record Took (s : List ℕ) (a at used l : ℕ) (f : Parsed) : Type 0 where
  pub n : Name
  pub is : name_in l at (drop a s) ≡ name n f.end
  pub whole : f ≡ parsed (rule_of n) f.end (used + length (headings at n))
  pub size : f.end ≡ long n
  pub within : a + f.end ≤ length s
  pub most : length (headings at n) ≤ f.end

took_as : (s : List ℕ) (a at used l : ℕ) (f : Parsed) → a ≤ length s → (r : Read) → name_in l at (drop a s) ≡ r → Ok (NameStands l (drop a s)) r → Result-ok f ≡ answer at used r → Took s a at used l f
took_as s a at used l f h (broken m p hs) q o e = differ cc
took_as s a at used l f h (name n j) q o e =
    let p = o.got refl in
    let w : f ≡ parsed (rule_of n) j (used + length (headings at n)) = cc in
    let i : f.end ≡ j = ap (λ (x : Parsed). x.end) w in
    record {
      n = n;
      is = q ∙ ap (name n) (sym i);
      whole = w ∙ ap (λ (k : ℕ). parsed (rule_of n) k (used + length (headings at n))) (sym i);
      size = i ∙ p.2;
      within = omega (arith, i, length-drop a s, ap length p.1, length-write n (drop j (drop a s)), p.2);
      most = omega (arith, i, heads_few l at n p.0, p.2);
    }

took : (s : List ℕ) (a at used l : ℕ) {f : Parsed} → a ≤ length s → Result-ok f ≡ answer at used (name_in l at (drop a s)) → Took s a at used l f
took s a at used l {f} h e = took_as s a at used l f h (name_in l at (drop a s)) refl (sound l at (drop a s)) e

sets-append : (l : List ℕ) (i : ℕ) (a b : List ℕ) → sets (sets l i a) (i + length a) b ≡ sets l i (a ++ b)
sets-append l i [] b = let z : i + 0 ≡ i = omega arith in rw z
sets-append l i (x ∷ a) b =
    let z : i + suc (length a) ≡ suc i + length a = omega arith in
    rw z (sets-append (set l i x) (suc i) a b)

-- the code of a head of h bytes with n arguments
abbrev pub first : List EnumEntry → Bool → (at : ℕ) → List ℕ → (h n : ℕ) → ℕ
first es own at s h n = word (kind_in es own (take h s) n) n at

-- what was met after a head of h bytes, and where the name ends, by what its arguments answered
module _ (es : List EnumEntry) (own : Bool) (at : ℕ) (s : List ℕ) (h : ℕ) (size : length (take h s) ≡ h) where
  -- a name that n makes of its tail ends, or its brackets are missing: the same heads were met
  closed_met : (n : Tail → Name) (x : Name) (hs : List Heading) (e : ℕ) → ((t : Tail) → headings at (n t) ≡ hs) → met at (closed at n x s e) ≡ hs
  unfolding closed
  closed_met n x hs e f =
      elim (starts (ascii "]]") (drop e s)) as (λ b. met at (cond b (ended n s (e + 2)) (missing (ascii "]]") at x s e (headings at (n none)))) ≡ hs)
      [ true ↦ f (tail_of (drop (e + 2) s)) | false ↦ f none ]

  closed_answer : (n : Tail → Name) (x : Name) (hs : List Heading) (a k u used : ℕ) → ((t : Tail) → headings at (n t) ≡ hs) → ((t : Tail) → rule_of (n t) ≡ rule_by ArgumentBrackets t) → u ≡ used + length hs
      → closing at s a (parsed (rule_of x) k u) ≡ answer at used (closed at n x s (a + k))
  unfolding closed ascii
  closed_answer n x hs a k u used f g v =
      elim (starts (ascii "]]") (drop (a + k) s))
      as (λ b. tailed_after s u (cond b (Result-ok (a + k + 2)) (Err (refusal (number_of (rule_behind (rule_of x) (drop (a + k) s))) (at + (a + k + common (ascii "]]") (drop (a + k) s))))))
      ≡ answer at used (cond b (ended n s (a + k + 2)) (missing (ascii "]]") at x s (a + k) (headings at (n none)))))
      [ true ↦ rw (f (tail_of (drop (a + k + 2) s)), g (tail_of (drop (a + k + 2) s)), v) | false ↦ rw (behind_wrong x (drop (a + k) s)) ]

  -- the heads of a name with one argument, and with two
  one_heads : (x : Name) (t : Tail) → headings at (one (take h s) x t) ≡ heading (take h s) 1 at ∷ headings (at + (h + 4)) x
  unfolding headings
  one_heads x t = rw size

  two_heads : (x y : Name) (b : ℕ) → b ≡ h + 4 + long x + 3 → (t : Tail) → headings at (two (take h s) x y t) ≡ heading (take h s) 2 at ∷ (headings (at + (h + 4)) x ++ headings (at + b) y)
  unfolding headings
  two_heads x y b e t = rw (size, e)

  one_rule : (x : Name) (t : Tail) → rule_of (one (take h s) x t) ≡ rule_by ArgumentBrackets t
  unfolding rule_of
  one_rule x t = refl

  two_rule : (x y : Name) (t : Tail) → rule_of (two (take h s) x y t) ≡ rule_by ArgumentBrackets t
  unfolding rule_of
  two_rule x y t = refl

  only_met : (r : Read) → codes es own (met at (on_only at s h (h + 4) r)) ≡ first es own at s h 1 ∷ codes es false (met (at + (h + 4)) r)
  unfolding on_only codes
  only_met (broken m p hs) = refl
  only_met (name x k) = rw (closed_met (one (take h s) x) x (heading (take h s) 1 at ∷ headings (at + (h + 4)) x) (h + 4 + k) (one_heads x))

  only_answer : (used : ℕ) (x : Name) (k : ℕ) → closing at s (h + 4) (parsed (rule_of x) k (used + 1 + length (headings (at + (h + 4)) x))) ≡ answer at used (on_only at s h (h + 4) (name x k))
  unfolding on_only
  only_answer used x k =
      closed_answer (one (take h s) x) x (heading (take h s) 1 at ∷ headings (at + (h + 4)) x) (h + 4) k (used + 1 + length (headings (at + (h + 4)) x)) used (one_heads x) (one_rule x) (omega arith)

  module _ (x : Name) (b : ℕ) (e : b ≡ h + 4 + long x + 3) where
    second_met : (r : Read) → codes es own (met at (on_second at s h (h + 4) x b r)) ≡ first es own at s h 2 ∷ (codes es false (headings (at + (h + 4)) x) ++ codes es false (met (at + b) r))
    unfolding on_second codes
    second_met (broken m p hs) = rw (codes-append es (headings (at + (h + 4)) x) hs)
    second_met (name y k) =
        rw (
          closed_met (two (take h s) x y) y (heading (take h s) 2 at ∷ (headings (at + (h + 4)) x ++ headings (at + b) y)) (b + k) (two_heads x y b e),
          codes-append es (headings (at + (h + 4)) x) (headings (at + b) y),
        )

    second_answer : (u used : ℕ) → u ≡ used + 1 + length (headings (at + (h + 4)) x) → (y : Name) (k : ℕ)
        → closing at s b (parsed (rule_of y) k (u + length (headings (at + b) y))) ≡ answer at used (on_second at s h (h + 4) x b (name y k))
    unfolding on_second
    second_answer u used v y k =
        closed_answer (two (take h s) x y) y (heading (take h s) 2 at ∷ (headings (at + (h + 4)) x ++ headings (at + b) y)) b k (u + length (headings (at + b) y)) used (two_heads x y b e) (two_rule x y)
        (omega (arith, length-append (headings (at + (h + 4)) x) (headings (at + b) y)))

    second_lost : (u used : ℕ) (f : Refusal) (r : Read) → Err f ≡ answer (at + b) u r → Err f ≡ answer at used (on_second at s h (h + 4) x b r)
    unfolding on_second
    second_lost u used f (broken m p hs) q = q
    second_lost u used f (name y k) q = differ cc

  -- an argument that is broken
  argument_lost : (below : ℕ → List ℕ → Read) (u used n : ℕ) (f : Refusal) (r : Read) → below (at + (h + 4)) (drop (h + 4) s) ≡ r → (n ≡ 0 → ⊥) → n ≤ 2 → Err f ≡ answer (at + (h + 4)) u r
      → (Err f ≡ answer at used (after_head below at s h n)) × (codes es own (met at (after_head below at s h n)) ≡ first es own at s h n ∷ codes es false (met (at + (h + 4)) r))
  unfolding after_head on_only on_first codes
  argument_lost below u used n f (name x k) i z l q = differ cc
  argument_lost below u used zero f (broken m p hs) i z l q = absurd (z refl)
  argument_lost below u used (suc zero) f (broken m p hs) i z l q = rw i (q, refl)
  argument_lost below u used (suc (suc zero)) f (broken m p hs) i z l q = rw i (q, refl)
  argument_lost below u used (suc (suc (suc n))) f (broken m p hs) i z l q = absurd (omega arith)

  -- no comma follows the first of two arguments
  comma_lost : (second : Read) (hs : List Heading) (b used m p : ℕ) (f : Refusal) (y : Bool) → cond y (Result-ok b) (Err (refusal m p)) ≡ Err f
      → (Err f ≡ answer at used (cond y second (broken m p hs))) × (met at (cond y second (broken m p hs)) ≡ hs)
  comma_lost second hs b used m p f true e = differ cc
  comma_lost second hs b used m p f false e = let z : f ≡ refusal m p = cc in (ap Err z, refl)

  first_lost : (below : ℕ → List ℕ → Read) (u used : ℕ) (f : Refusal) (x : Name) (k : ℕ) → passed (ascii "],[") at s (h + 4) (parsed (rule_of x) k u) ≡ Err f
      → (Err f ≡ answer at used (on_first below at s h (h + 4) (name x k))) × (codes es own (met at (on_first below at s h (h + 4) (name x k))) ≡ first es own at s h 2 ∷ codes es false (headings (at + (h + 4)) x))
  unfolding on_first codes ascii
  first_lost below u used f x k e =
      let b = h + 4 + k + 3 in
      let r = drop (h + 4 + k) s in
      let g = comma_lost (on_second at s h (h + 4) x b (below (at + b) (drop b s))) (heading (take h s) 2 at ∷ headings (at + (h + 4)) x) b used (behind (wrong x) r) (at + (h + 4 + k + common (ascii "],[") r)) f (starts (ascii "],[") r) (rw (behind_wrong x r) at e) in
      (g.0, rw g.1)

-- a code is put before those that were written after it
fronted : (c : List ℕ) {c₁ c' : List ℕ} (used x : ℕ) (ws : List ℕ) → c₁ ≡ set c used x → c' ≡ sets c₁ (used + 1) ws → c' ≡ sets c used (x ∷ ws)
fronted c used x ws p q =
    let z : used + 1 ≡ suc used = omega arith in
    q ∙ rw (p, z)

-- a call on what stands from a on
pub part_took : {es : List EnumEntry} {own : Bool} {l : ℕ} (s : List ℕ) (a : ℕ) {at : ℕ} {c c' : List ℕ} {used : ℕ} {f : Parsed} → a ≤ length s → Parses es own l at (drop a s) c c' used (Result-ok f) → Took s a at used l f
part_took {l = l} s a {at} {used = used} h p = took s a at used l h p.answers

-- an argument that was read, and a text after it
pub record Passed (w s : List ℕ) (a k b : ℕ) : Type 0 where
  pub stands : starts w (drop (a + k) s) ≡ true
  pub next : b ≡ a + k + length w

module _ (w : List ℕ) (at : ℕ) (s : List ℕ) (a : ℕ) (f : Parsed) where
  passed_as : (b n : ℕ) (x : Refusal) (y : Bool) → starts w (drop (a + f.end) s) ≡ y → n ≡ a + f.end + length w → cond y (Result-ok n) (Err x) ≡ Result-ok b → Passed w s a f.end b
  passed_as b n x false c i e = differ cc
  passed_as b n x true c i e = let z : b ≡ n = cc in record { stands = c; next = z ∙ i }

  pub has-passed : {b : ℕ} → passed w at s a f ≡ Result-ok b → Passed w s a f.end b
  has-passed {b} e = passed_as b (a + f.end + length w) _ (starts w (drop (a + f.end) s)) refl refl e

  pub passed-fits : {b : ℕ} → a + f.end ≤ length s → passed w at s a f ≡ Result-ok b → b ≤ length s
  passed-fits i e =
      let t = has-passed e in
      omega (arith, t.next, starts-fits w s (a + f.end) i t.stands)

  -- what `past` returns: the text stands there, or only m bytes of it do
  module _ (m : ℕ) (e : m ≡ common w (drop (a + f.end) s)) where
    pub past-stands : m ≡ length w → Result-ok (a + f.end + m) ≡ passed w at s a f
    past-stands q =
        let b : starts w (drop (a + f.end) s) ≡ true = starts-common w (drop (a + f.end) s) ∙ eq-eqb (common w (drop (a + f.end) s)) (length w) (sym e ∙ q) in
        rw (b, q)

    pub past-lost : (m ≡ length w → ⊥) → (r : Rule) → r ≡ rule_behind f.wrong (drop (a + f.end) s) → Err (refusal (number_of r) (at + (a + f.end + m))) ≡ passed w at s a f
    past-lost q r i =
        let b : starts w (drop (a + f.end) s) ≡ false = starts-common w (drop (a + f.end) s) ∙ ne_eqb (common w (drop (a + f.end) s)) (length w) (λ z. q (e ∙ z)) in
        rw (b, i, e)

-- the second argument starts within the part, and the codes that are used until then are fewer than the bytes
pub second_fits : {es : List EnumEntry} {own : Bool} {l : ℕ} (at : ℕ) (s : List ℕ) (a : ℕ) {c c' : List ℕ} {used : ℕ} {f : Parsed} {b : ℕ} → a ≤ length s
    → Parses es own l (at + a) (drop a s) c c' used (Result-ok f) → passed (ascii "],[") at s a f ≡ Result-ok b → (b ≤ length s) × (f.used + a ≤ used + b)
unfolding ascii
second_fits at s a {f = f} h p y =
    let t = has-passed (ascii "],[") at s a f y in
    let k = part_took s a h p in
    let g = starts-fits _ s (a + f.end) k.within t.stands in
    (omega (arith, t.next), omega (arith, t.next, ap (λ (x : Parsed). x.used) k.whole, k.most))

-- what `parse` returns
module _ {es : List EnumEntry} {own : Bool} {l at : ℕ} {s c : List ℕ} {used : ℕ} where
  pub give_up : {m p : ℕ} → name_in l at s ≡ broken m p [] → Parses es own l at s c c used (Err (refusal m p))
  unfolding codes
  give_up e = record { answers = rw e; writes = rw e }

  module _ (h n : ℕ) (e : name_in l at s ≡ after_head (name_in (l - 1)) at s h n) where
    pub odd_done : {x : Refusal} → n ≡ 3 → x ≡ refusal (unopened_number (drop h s)) (at + (h + unopened_at (drop h s))) → Parses es own l at s c c used (Err x)
    unfolding after_head
    odd_done z q = rw q (give_up (e ∙ rw z))

    module _ (inside : h ≤ length s) where
      pub simple_done : {c₁ : List ℕ} {r : Parsed} → c₁ ≡ set c used (first es own at s h n) → n ≡ 0 → r ≡ tailed s h (used + 1) HeadByte → Parses es own l at s c c₁ used (Result-ok r)
      unfolding after_head codes headings rule_of
      simple_done w z q =
          let i : name_in l at s ≡ ended (simple (take h s)) s h = e ∙ rw z in
          record { answers = rw (q, i); writes = w ∙ rw (i, z) }

-- behind a head that opens arguments
module _ (es : List EnumEntry) (own : Bool) (l at : ℕ) (s c : List ℕ) (used h n : ℕ) (e : name_in l at s ≡ after_head (name_in (l - 1)) at s h n) (inside : h ≤ length s) {c₁ c₂ : List ℕ} (w : c₁ ≡ set c used (first es own at s h n)) where
  -- what the codes hold when the first argument was read
  fronts : {r : Result Parsed Refusal} {ws : List ℕ} → Parses es false (l - 1) (at + (h + 4)) (drop (h + 4) s) c₁ c₂ (used + 1) r
      → ws ≡ codes es own (met at (after_head (name_in (l - 1)) at s h n)) → ws ≡ first es own at s h n ∷ codes es false (met (at + (h + 4)) (name_in (l - 1) (at + (h + 4)) (drop (h + 4) s)))
      → c₂ ≡ sets c used (codes es own (met at (name_in l at s)))
  fronts p i q =
      fronted c used (first es own at s h n) (codes es false (met (at + (h + 4)) (name_in (l - 1) (at + (h + 4)) (drop (h + 4) s)))) w p.writes ∙ ap (sets c used) (sym q ∙ i ∙ ap (λ (r : Read). codes es own (met at r)) (sym e))

  pub argument-lost : {x : Refusal} → Parses es false (l - 1) (at + (h + 4)) (drop (h + 4) s) c₁ c₂ (used + 1) (Err x) → (n ≡ 0 → ⊥) → n ≤ 2 → Parses es own l at s c c₂ used (Err x)
  argument-lost {x} p z k =
      let g = argument_lost es own at s h (length-take-le h s inside) (name_in (l - 1)) (used + 1) used n x (name_in (l - 1) (at + (h + 4)) (drop (h + 4) s)) refl z k p.answers in
      record { answers = g.0 ∙ ap (answer at used) (sym e); writes = fronts p refl g.1 }

  module _ {f : Parsed} (p : Parses es false (l - 1) (at + (h + 4)) (drop (h + 4) s) c₁ c₂ (used + 1) (Result-ok f)) (g : h + 4 ≤ length s) where
    pub only_done : {r : Result Parsed Refusal} → n ≡ 1 → r ≡ closing at s (h + 4) f → Parses es own l at s c c₂ used r
    unfolding after_head
    only_done z q =
        let k = part_took s (h + 4) g p in
        let x = name_in (l - 1) (at + (h + 4)) (drop (h + 4) s) in
        let i : after_head (name_in (l - 1)) at s h n ≡ on_only at s h (h + 4) x = rw z in
        record {
          answers = q ∙ ap (closing at s (h + 4)) k.whole ∙ only_answer es own at s h (length-take-le h s inside) used k.n f.end ∙ ap (answer at used) (rw (e, i, k.is));
          writes = fronts p refl (ap (λ (r : Read). codes es own (met at r)) i ∙ only_met es own at s h (length-take-le h s inside) x ∙ rw z);
        }

    pub comma-lost : {x : Refusal} → n ≡ 2 → passed (ascii "],[") at s (h + 4) f ≡ Err x → Parses es own l at s c c₂ used (Err x)
    unfolding after_head
    comma-lost {x} z y =
        let k = part_took s (h + 4) g p in
        let i : after_head (name_in (l - 1)) at s h n ≡ on_first (name_in (l - 1)) at s h (h + 4) (name k.n f.end) = rw (z, k.is) in
        let o = first_lost es own at s h (length-take-le h s inside) (name_in (l - 1)) (used + 1 + length (headings (at + (h + 4)) k.n)) used x k.n f.end (ap (passed (ascii "],[") at s (h + 4)) (sym k.whole) ∙ y) in
        record {
          answers = o.0 ∙ ap (answer at used) (sym i ∙ sym e);
          writes = fronts p refl (ap (λ (r : Read). codes es own (met at r)) i ∙ o.1 ∙ rw (z, k.is));
        }

    module _ {b : ℕ} {c₃ : List ℕ} (z : n ≡ 2) (k : Took s (h + 4) (at + (h + 4)) (used + 1) (l - 1) f) (o : passed (ascii "],[") at s (h + 4) f ≡ Result-ok b) {r : Result Parsed Refusal} (p₂ : Parses es false (l - 1) (at + b) (drop b s) c₂ c₃ f.used r) where
      starts_at : b ≡ h + 4 + long k.n + 3
      unfolding ascii
      starts_at = omega (arith, (has-passed (ascii "],[") at s (h + 4) f o).next, k.size)

      by_two : (n : ℕ) → n ≡ 2 → (x : Name) (j : ℕ) → name_in (l - 1) (at + (h + 4)) (drop (h + 4) s) ≡ name x j → starts (ascii "],[") (drop (h + 4 + j) s) ≡ true → b ≡ h + 4 + j + 3
          → after_head (name_in (l - 1)) at s h n ≡ on_second at s h (h + 4) x b (name_in (l - 1) (at + b) (drop b s))
      unfolding after_head on_first ascii
      by_two n z x j i t m = rw (z, i, t, ← m)

      both_is : name_in l at s ≡ on_second at s h (h + 4) k.n b (name_in (l - 1) (at + b) (drop b s))
      unfolding after_head on_first ascii
      both_is =
          let t = has-passed (ascii "],[") at s (h + 4) f o in
          e ∙ by_two n z k.n f.end k.is t.stands t.next

      more : f.used ≡ used + 1 + length (headings (at + (h + 4)) k.n)
      more = ap (λ (x : Parsed). x.used) k.whole

      both_writes : c₃ ≡ sets c used (codes es own (met at (name_in l at s)))
      both_writes =
          let second = name_in (l - 1) (at + b) (drop b s) in
          let xs = first es own at s h 2 ∷ codes es false (headings (at + (h + 4)) k.n) in
          let ys = codes es false (met (at + b) second) in
          let w₂ : c₂ ≡ sets c used xs = fronted c used (first es own at s h 2) (codes es false (headings (at + (h + 4)) k.n)) (rw z at w) (p.writes ∙ rw k.is) in
          let v : f.used ≡ used + length xs = omega (arith, more, codes-length es false (headings (at + (h + 4)) k.n)) in
          p₂.writes ∙ rw (w₂, v) (sets-append c used xs ys) ∙ ap (sets c used) (sym (second_met es own at s h (length-take-le h s inside) k.n b starts_at second) ∙ ap (λ (r : Read). codes es own (met at r)) (sym both_is))

      pub second-lost : {x : Refusal} → r ≡ Err x → Parses es own l at s c c₃ used (Err x)
      second-lost {x} q = record {
        answers = second_lost es own at s h (length-take-le h s inside) k.n b starts_at f.used used x (name_in (l - 1) (at + b) (drop b s)) (sym q ∙ p₂.answers) ∙ ap (answer at used) (sym both_is);
        writes = both_writes;
      }

      pub both_done : {f₂ : Parsed} {r₂ : Result Parsed Refusal} → b ≤ length s → r ≡ Result-ok f₂ → r₂ ≡ closing at s b f₂ → Parses es own l at s c c₃ used r₂
      both_done {f₂} fit q d =
          let k₂ = part_took s b {f = f₂} fit (rw q at p₂) in
          record {
            answers = d ∙ ap (closing at s b) k₂.whole ∙ second_answer es own at s h (length-take-le h s inside) k.n b starts_at f.used used more k₂.n f₂.end ∙ ap (answer at used) (ap (on_second at s h (h + 4) k.n b) (sym k₂.is) ∙ sym both_is);
            writes = both_writes;
          }

-- Two runs of one reader side by side, over two files that have the same bytes but in texts: what each combinator of readers keeps. Assumes nothing.
use Rattle.std.specs.Prelude.{◌≡◌, Bool, List, ◌++◌, ◌⊎◌, ℕ, ◌+◌, ◌-◌, ◌<◌, ◌≤◌, length, get_or, take, drop}
use Rattle.std.proofs.Math.Path.{refl}
use Rattle.std.proofs.Common.{sym, ap, ◌∙◌, inl, inr, arith, length-drop, length-append, take-append-drop, ext_get_or, get_or-drop, get_or-take, drop-drop, length-take-le}
use Rattle.std.proofs.Math.Bool.{true, false}
use Rattle.std.proofs.Math.Seq.{take-append_seam}
use Rattle.laws.specs.Small.{differ}
use Rattle.layout.specs.Text.{Utf8s}
use Rattle.reading.specs.Answer.{Answer, refused, read, bind, check}
use Rattle.reading.specs.Reads.{Small, Reads}
use Rattle.retyped.specs.Texts.{Span, In}

-- what is read ends at or before a place
unfoldable pub Behind : {A : Type 0} → Answer A → ℕ → Type 0
Behind (refused n p) s = ⊥
Behind (read a e) s = e ≤ s

pub is_behind : {A : Type 0} (o : Answer A) (a : A) (n : ℕ) → o ≡ read a n → (s : ℕ) → n ≤ s → Behind o s
unfolding Behind
is_behind o a n q s l = rw q l

pub ends_at : {A : Type 0} (o : Answer A) (a : A) (e : ℕ) → o ≡ read a e → (s : ℕ) → Behind o s → e ≤ s
unfolding Behind
ends_at o a e q s b = rw q at b

pub no_end : {A : Type 0} (o : Answer A) (n p : ℕ) → o ≡ refused n p → (s : ℕ) → Behind o s → ⊥
unfolding Behind
no_end o n p q s b = rw q at b

pub end_of : {A : Type 0} (o : Answer A) (s : ℕ) → Behind o s → (a : A) × (n : ℕ) × (o ≡ read a n) × (n ≤ s)
unfolding Behind
end_of (refused n p) s b = absurd b
end_of (read a n) s b = (a, n, refl, b)

pub check_behind : {A : Type 0} (b : Bool) (n p : ℕ) (x : Answer A) (s : ℕ) → Behind (check b n p x) s → Behind x s
unfolding check Behind
check_behind true n p x s h = h
check_behind false n p x s h = absurd h

pub bind_behind : {A B : Type 0} (o : Answer A) (k : A → ℕ → Answer B) (s : ℕ) → ((a : A) (n : ℕ) → o ≡ read a n → Behind (k a n) s → n ≤ s) → Behind (bind o k) s → Behind o s
unfolding bind Behind
bind_behind (refused m p) k s c b = absurd b
bind_behind (read a n) k s c b = c a n refl b

-- something was read
unfoldable pub WasRead : {A : Type 0} → Answer A → Type 0
WasRead (refused n p) = ⊥
WasRead (read a e) = Unit {0}

is_read : {A : Type 0} (o : Answer A) (a : A) (n : ℕ) → o ≡ read a n → WasRead o
unfolding WasRead
is_read o a n q = rw q tt

bind-read : {A B : Type 0} (o : Answer A) (k : A → ℕ → Answer B) → WasRead (bind o k) → WasRead o
unfolding bind WasRead
bind-read (refused m p) k w = w
bind-read (read a n) k w = tt

pub check-read : {A : Type 0} (b : Bool) (n p : ℕ) (x : Answer A) → WasRead (check b n p x) → b ≡ true
unfolding check WasRead
check-read true n p x w = refl
check-read false n p x w = absurd w

-- the same refusal, or the same place and related values
pub data SameBy {A : Type 0} (R : A → A → Type 0) : Answer A → Answer A → Type 0 where
  both_refused : {n p : ℕ} → SameBy R (refused n p) (refused n p)
  both_read : {a a' : A} {e : ℕ} → R a a' → SameBy R (read a e) (read a' e)

pub same_bind : {A B : Type 0} {R : A → A → Type 0} {S : B → B → Type 0} (o o' : Answer A) (k k' : A → ℕ → Answer B) → SameBy R o o'
    → ((a a' : A) (n : ℕ) → o ≡ read a n → R a a' → SameBy S (k a n) (k' a' n)) → SameBy S (bind o k) (bind o' k')
unfolding bind
same_bind o o' k k' both_refused h = both_refused
same_bind o o' k k' (both_read {a = a} {a' = a'} {e = e} w) h = h a a' e refl w

pub same_equal : {A : Type 0} (o o' : Answer A) → o ≡ o' → SameBy ◌≡◌ o o'
same_equal (refused n p) o' q = rw (← q) both_refused
same_equal (read a e) o' q = rw (← q) (both_read refl)

pub equal_same : {A : Type 0} {o o' : Answer A} → SameBy ◌≡◌ o o' → o ≡ o'
equal_same both_refused = refl
equal_same (both_read {e = e} w) = ap (λ z. read z e) w

same_weaken : {A : Type 0} {R S : A → A → Type 0} {o o' : Answer A} → ((a a' : A) → R a a' → S a a') → SameBy R o o' → SameBy S o o'
same_weaken h both_refused = both_refused
same_weaken h (both_read {a = a} {a' = a'} w) = both_read (h a a' w)

-- what the first has read, the second has read
same_read : {A : Type 0} {R : A → A → Type 0} (o o' : Answer A) → SameBy R o o' → (a : A) (n : ℕ) → o ≡ read a n → (a' : A) × (o' ≡ read a' n) × R a a'
same_read o o' both_refused a n q = differ cc
same_read o o' (both_read {a = b} {a' = b'} {e = e} w) a n q =
    let e₁ : b ≡ a = cc in
    let e₂ : e ≡ n = cc in
    (b', ap (read b') e₂, rw e₁ at w)

-- what the second has read, the first has read
read_same : {A : Type 0} {R : A → A → Type 0} (o o' : Answer A) → SameBy R o o' → (a' : A) (n : ℕ) → o' ≡ read a' n → (a : A) × (o ≡ read a n) × R a a'
read_same o o' both_refused a n q = differ cc
read_same o o' (both_read {a = b} {a' = b'} {e = e} w) a n q =
    let e₁ : b' ≡ a = cc in
    let e₂ : e ≡ n = cc in
    (b, ap (read b) e₂, rw e₁ at w)

-- a place stands in a text that is read here, where the second file has valid text, or behind all that is read here
pub data Covered {A : Type 0} (g : List ℕ) (T : Span → Type 0) (o : Answer A) (i : ℕ) : Type 0 where
  typed : (x : Span) → In i x → T x → Utf8s (take x.1 (drop x.0 g)) → Covered g T o i
  behind : Behind o i → Covered g T o i

-- a place is in some text
abbrev pub InSome : (Span → Type 0) → ℕ → Type 0
InSome T i = (x : Span) × In i x × T x

module _ (f g : List ℕ) where
  -- from a place on the files have the same bytes but there
  abbrev pub Agree : {A : Type 0} → (Span → Type 0) → Answer A → (at : ℕ) → Type 0
  Agree T o at = (i : ℕ) → at ≤ i → (get_or f i 0 ≡ get_or g i 0) ⊎ Covered g T o i

  agree_by : {A B : Type 0} {T U : Span → Type 0} {o : Answer A} {p : Answer B} {at at' : ℕ} → at ≤ at' → ((x : Span) (i : ℕ) → at' ≤ i → In i x → T x → U x ⊎ Behind p i)
      → ((i : ℕ) → at' ≤ i → Behind o i → Behind p i) → Agree T o at → Agree U p at'
  agree_by {T = T} {U = U} {o = o} {p = p} l m d h i k = go (h i (omega arith)) where
    told : (x : Span) → In i x → Utf8s (take x.1 (drop x.0 g)) → U x ⊎ Behind p i → Covered g U p i
    told x j v (inl t) = typed x j t v
    told x j v (inr b) = behind b

    go : (get_or f i 0 ≡ get_or g i 0) ⊎ Covered g T o i → (get_or f i 0 ≡ get_or g i 0) ⊎ Covered g U p i
    go (inl e) = inl e
    go (inr (typed x j t v)) = inr (told x j v (m x i k j t))
    go (inr (behind b)) = inr (behind (d i k b))

  -- from a place on the files have the same bytes but in texts of both: one that is read here or stands behind, and one that the second reads, if it does not
  -- read all
  abbrev pub Overlap : {A : Type 0} → (T T' : Span → Type 0) → (o o' : Answer A) → (at : ℕ) → Type 0
  Overlap T T' o o' at = (i : ℕ) → at ≤ i → (get_or f i 0 ≡ get_or g i 0) ⊎ ((InSome T i ⊎ Behind o i) × (InSome T' i ⊎ WasRead o'))

  overlap_by : {A B : Type 0} {T U T' U' : Span → Type 0} (o o' : Answer A) (p p' : Answer B) {at at' : ℕ} → at ≤ at'
      → ((x : Span) (i : ℕ) → at' ≤ i → In i x → T x → U x ⊎ Behind p i) → ((i : ℕ) → at' ≤ i → Behind o i → Behind p i)
      → ((x : Span) (i : ℕ) → at' ≤ i → In i x → T' x → U' x ⊎ WasRead p') → (WasRead o' → WasRead p') → Overlap T T' o o' at → Overlap U U' p p' at'
  overlap_by {T = T} {U = U} {T' = T'} {U' = U'} o o' p p' l m d m' d' h i k = go (h i (omega arith)) where
    here : (x : Span) → In i x → U x ⊎ Behind p i → InSome U i ⊎ Behind p i
    here x j (inl t) = inl (x, j, t)
    here x j (inr b) = inr b

    there : (x : Span) → In i x → U' x ⊎ WasRead p' → InSome U' i ⊎ WasRead p'
    there x j (inl t) = inl (x, j, t)
    there x j (inr b) = inr b

    first : InSome T i ⊎ Behind o i → InSome U i ⊎ Behind p i
    first (inl s) = here s.0 s.1 (m s.0 i k s.1 s.2)
    first (inr b) = inr (d i k b)

    second : InSome T' i ⊎ WasRead o' → InSome U' i ⊎ WasRead p'
    second (inl s) = there s.0 s.1 (m' s.0 i k s.1 s.2)
    second (inr b) = inr (d' b)

    go : (get_or f i 0 ≡ get_or g i 0) ⊎ ((InSome T i ⊎ Behind o i) × (InSome T' i ⊎ WasRead o')) → (get_or f i 0 ≡ get_or g i 0) ⊎ ((InSome U i ⊎ Behind p i) × (InSome U' i ⊎ WasRead p'))
    go (inl e) = inl e
    go (inr w) = inr (first w.0, second w.1)

  -- Two readings from `at` on, of which the first reads the texts T and the second the texts T': the first ends at or behind its start; its texts stand from
  -- its start on, end before its end and have no byte in common;
  -- where the files agree but for these texts, both end alike, and each reads the texts that the other reads;
  -- and they agree so where each byte that differs stands in a text of the one and in a text of the other.
  pub record Twin {A : Type 0} (R : A → A → Type 0) (T T' : Span → Type 0) (at : ℕ) (o o' : Answer A) : Type 0 where
    pub ahead : (s : ℕ) → Behind o s → at ≤ s
    pub lies : (x : Span) → T x → (at ≤ x.0) × ((s : ℕ) → Behind o s → x.0 + x.1 ≤ s)
    pub single : (i : ℕ) (x y : Span) → In i x → In i y → T x → T y → x ≡ y
    pub same : Agree T o at → SameBy R o o'
    pub kept : Agree T o at → (x : Span) → T x → T' x
    pub back : Agree T o at → (x : Span) → T' x → T x
    pub agreed : Overlap T T' o o' at → Agree T o at

  -- readings without texts, and such readings with equal answers
  abbrev pub Wordless : {A : Type 0} → (R : A → A → Type 0) → (at : ℕ) (o o' : Answer A) → Type 0
  Wordless R at o o' = Twin R (λ x. ⊥) (λ x. ⊥) at o o'

  abbrev pub Quiet : {A : Type 0} → (at : ℕ) (o o' : Answer A) → Type 0
  Quiet at o o' = Wordless ◌≡◌ at o o'

  -- what is to be shown of readings without texts
  pub wordless : {A : Type 0} {R : A → A → Type 0} {at : ℕ} {o o' : Answer A} → ((s : ℕ) → Behind o s → at ≤ s) → (Agree (λ x. ⊥) o at → SameBy R o o') → Wordless R at o o'
  wordless {at = at} {o = o} {o' = o'} ahead same = record {
    ahead = ahead;
    lies = λ x t. absurd t;
    single = λ i x y j k t u. absurd t;
    same = same;
    kept = λ h x t. absurd t;
    back = λ h x t. absurd t;
    agreed = λ h i l. go i (h i l);
  } where
    by : (i : ℕ) → InSome (λ x. ⊥) i ⊎ Behind o i → Covered g (λ x. ⊥) o i
    by i (inl s) = absurd s.2
    by i (inr b) = behind b

    go : (i : ℕ) → (get_or f i 0 ≡ get_or g i 0) ⊎ ((InSome (λ x. ⊥) i ⊎ Behind o i) × (InSome (λ x. ⊥) i ⊎ WasRead o')) → (get_or f i 0 ≡ get_or g i 0) ⊎ Covered g (λ x. ⊥) o i
    go i (inl e) = inl e
    go i (inr w) = inr (by i w.0)

  pub twin-map : {A : Type 0} {R : A → A → Type 0} {T U T' U' : Span → Type 0} {at : ℕ} {o o' : Answer A} → ((x : Span) → T x → U x) → ((x : Span) → U x → T x)
      → ((x : Span) → T' x → U' x) → ((x : Span) → U' x → T' x) → Twin R U U' at o o' → Twin R T T' at o o'
  twin-map {T = T} {U = U} {at = at} {o = o} {o' = o'} to from to' from' w = record {
    ahead = w.ahead;
    lies = λ x t. w.lies x (to x t);
    single = λ i x y j k t u. w.single i x y j k (to x t) (to y u);
    same = λ h. w.same (mapped h);
    kept = λ h x t. from' x (w.kept (mapped h) x (to x t));
    back = λ h x t. from x (w.back (mapped h) x (to' x t));
    agreed = λ h. agree_by (omega arith) (λ x i k j t. inl (from x t)) (λ i k b. b)
        (w.agreed (overlap_by o o' o o' (omega arith) (λ x i k j t. inl (to x t)) (λ i k b. b) (λ x i k j t. inl (to' x t)) (λ b. b) h));
  } where
    mapped : Agree T o at → Agree U o at
    mapped h = agree_by (omega arith) (λ x i k j t. inl (to x t)) (λ i k b. b) h

  pub twin_weaken : {A : Type 0} {R S : A → A → Type 0} {T T' : Span → Type 0} {at : ℕ} {o o' : Answer A} → ((a a' : A) → R a a' → S a a') → Twin R T T' at o o' → Twin S T T' at o o'
  twin_weaken h w = record { ahead = w.ahead; lies = w.lies; single = w.single; same = λ k. same_weaken h (w.same k); kept = w.kept; back = w.back; agreed = w.agreed }

  -- a value that takes no bytes
  pub twin-read : {A : Type 0} {R : A → A → Type 0} {at : ℕ} {a a' : A} → R a a' → Wordless R at (read a at) (read a' at)
  unfolding Behind
  twin-read r = wordless (λ s b. b) (λ h. both_read r)

  pub twin-refused : {A : Type 0} {R : A → A → Type 0} {at n p : ℕ} → Wordless R at (refused n p) (refused n p)
  unfolding Behind
  twin-refused = wordless (λ s b. absurd b) (λ h. both_refused)

  pub twin-check : {A : Type 0} {R : A → A → Type 0} {T T' : Span → Type 0} {at : ℕ} (b : Bool) (n p : ℕ) (o o' : Answer A)
      → (b ≡ true → Twin R T T' at o o') → Twin R (λ x. (b ≡ true) × T x) (λ x. (b ≡ true) × T' x) at (check b n p o) (check b n p o')
  unfolding check
  twin-check true n p o o' h = twin-map (λ x w. w.1) (λ x w. (refl, w)) (λ x w. w.1) (λ x w. (refl, w)) (h refl)
  twin-check false n p o o' h = twin-map (λ x w. differ cc) (λ x w. absurd w) (λ x w. differ cc) (λ x w. absurd w) twin-refused

  -- one reading and what follows it
  module _ {A B : Type 0} {R : A → A → Type 0} {S : B → B → Type 0} (T₁ T₁' : Span → Type 0) (T₂ T₂' : A → ℕ → Span → Type 0) {at : ℕ}
      (o o' : Answer A) (k k' : A → ℕ → Answer B) (own : (a : A) → R a a) (h : Twin R T₁ T₁' at o o')
      (c : (a a' : A) (n : ℕ) → o ≡ read a n → R a a' → Twin S (T₂ a n) (T₂' a' n) n (k a n) (k' a' n)) where
    abbrev Both : Span → Type 0
    Both x = T₁ x ⊎ ((a : A) × (n : ℕ) × (o ≡ read a n) × T₂ a n x)

    abbrev Both' : Span → Type 0
    Both' x = T₁' x ⊎ ((a : A) × (n : ℕ) × (o' ≡ read a n) × T₂' a n x)

    first_behind : (s : ℕ) → Behind (bind o k) s → Behind o s
    first_behind s b = bind_behind o k s (λ a n q d. (c a a n q (own a)).ahead s d) b

    at_end : (a : A) (n : ℕ) → o ≡ read a n → at ≤ n
    at_end a n q = h.ahead n (is_behind o a n q n (omega arith))

    goes_on : (a : A) (n : ℕ) → o ≡ read a n → bind o k ≡ k a n
    unfolding bind
    goes_on a n q = rw q

    goes_on' : (a : A) (n : ℕ) → o' ≡ read a n → bind o' k' ≡ k' a n
    unfolding bind
    goes_on' a n q = rw q

    -- a text of what follows stands behind the end of what comes first, whose texts end there
    later : (x : Span) (w : (a : A) × (n : ℕ) × (o ≡ read a n) × T₂ a n x) → w.1 ≤ x.0
    later x w = ((c w.0 w.0 w.1 w.2 (own w.0)).lies x w.3).0

    earlier : (x : Span) → T₁ x → (a : A) (n : ℕ) → o ≡ read a n → x.0 + x.1 ≤ n
    earlier x t a n q = (h.lies x t).1 n (is_behind o a n q n (omega arith))

    -- a text over a place is one of what comes first, unless the place stands behind that
    one_of : (x : Span) (i : ℕ) → In i x → Both x → T₁ x ⊎ Behind o i
    one_of x i j (inl t) = inl t
    one_of x i j (inr w) = inr (is_behind o w.0 w.1 w.2 i (omega (arith, later x w, j.0)))

    -- and one of what follows, if the place stands there
    two_of : (a : A) (n : ℕ) → o ≡ read a n → (x : Span) (i : ℕ) → n ≤ i → In i x → Both x → T₂ a n x ⊎ Behind (k a n) i
    two_of a n q x i l j (inl t) = absurd (omega (arith, earlier x t a n q, j.1))
    two_of a n q x i l j (inr w) =
        let p : read w.0 w.1 ≡ read a n = sym w.2 ∙ q in
        let e₁ : w.0 ≡ a = cc in
        let e₂ : w.1 ≡ n = cc in
        inl (rw (e₁, e₂) at w.3)

    second_behind : (a : A) (n : ℕ) → o ≡ read a n → (i : ℕ) → n ≤ i → Behind (bind o k) i → Behind (k a n) i
    second_behind a n q i l b = rw (goes_on a n q) at b

    -- the files agree in what comes first, and in what follows
    first : Agree Both (bind o k) at → Agree T₁ o at
    first = agree_by (omega arith) (λ x i l j t. one_of x i j t) (λ i l b. first_behind i b)

    second : (a : A) (n : ℕ) → o ≡ read a n → Agree Both (bind o k) at → Agree (T₂ a n) (k a n) n
    second a n q = agree_by (at_end a n q) (two_of a n q) (second_behind a n q)

    lie : (x : Span) → Both x → (at ≤ x.0) × ((s : ℕ) → Behind (bind o k) s → x.0 + x.1 ≤ s)
    lie x (inl t) = ((h.lies x t).0, λ s b. (h.lies x t).1 s (first_behind s b))
    lie x (inr w) =
        let r = (c w.0 w.0 w.1 w.2 (own w.0)).lies x w.3 in
        (omega (arith, r.0, at_end w.0 w.1 w.2), λ s b. r.1 s (rw (goes_on w.0 w.1 w.2) at b))

    alone : (i : ℕ) (x y : Span) → In i x → In i y → Both x → Both y → x ≡ y
    alone i x y j m (inl t) (inl u) = h.single i x y j m t u
    alone i x y j m (inl t) (inr w) = absurd (omega (arith, earlier x t w.0 w.1 w.2, later y w, j.1, m.0))
    alone i x y j m (inr w) (inl u) = absurd (omega (arith, earlier y u w.0 w.1 w.2, later x w, j.0, m.1))
    alone i x y j m (inr w) (inr v) =
        let p : read v.0 v.1 ≡ read w.0 w.1 = sym v.2 ∙ w.2 in
        let e₁ : v.0 ≡ w.0 = cc in
        let e₂ : v.1 ≡ w.1 = cc in
        (c w.0 w.0 w.1 w.2 (own w.0)).single i x y j m w.3 (rw (e₁, e₂) at v.3)

    keep : Agree Both (bind o k) at → (x : Span) → Both x → Both' x
    keep ag x (inl t) = inl (h.kept (first ag) x t)
    keep ag x (inr w) =
        let v = same_read o o' (h.same (first ag)) w.0 w.1 w.2 in
        inr (v.0, w.1, v.1, (c w.0 v.0 w.1 w.2 v.2).kept (second w.0 w.1 w.2 ag) x w.3)

    give : Agree Both (bind o k) at → (x : Span) → Both' x → Both x
    give ag x (inl t) = inl (h.back (first ag) x t)
    give ag x (inr w) =
        let v = read_same o o' (h.same (first ag)) w.0 w.1 w.2 in
        inr (v.0, w.1, v.1, (c v.0 w.0 w.1 v.1 v.2).back (second v.0 w.1 v.1 ag) x w.3)

    -- so it is of the second reading
    one_of' : (x : Span) → Both' x → T₁' x ⊎ WasRead o'
    one_of' x (inl t) = inl t
    one_of' x (inr w) = inr (is_read o' w.0 w.1 w.2)

    two_of' : Agree T₁ o at → (a a' : A) (n : ℕ) → o ≡ read a n → o' ≡ read a' n → (x : Span) (i : ℕ) → n ≤ i → In i x → Both' x → T₂' a' n x ⊎ WasRead (k' a' n)
    two_of' ag a a' n q q' x i l j (inl t) = absurd (omega (arith, earlier x (h.back ag x t) a n q, j.1))
    two_of' ag a a' n q q' x i l j (inr w) =
        let p : read w.0 w.1 ≡ read a' n = sym w.2 ∙ q' in
        let e₁ : w.0 ≡ a' = cc in
        let e₂ : w.1 ≡ n = cc in
        inl (rw (e₁, e₂) at w.3)

    -- where texts of both readings stand over each place that differs
    first_agree : Overlap Both Both' (bind o k) (bind o' k') at → Agree T₁ o at
    first_agree ov = h.agreed (overlap_by (bind o k) (bind o' k') o o' (omega arith) (λ x i l j t. one_of x i j t) (λ i l b. first_behind i b) (λ x i l j t. one_of' x t) (bind-read o' k') ov)

    second_agree : Overlap Both Both' (bind o k) (bind o' k') at → Agree T₁ o at → (a : A) (n : ℕ) → o ≡ read a n → Agree (T₂ a n) (k a n) n
    second_agree ov ag a n q =
        let v = same_read o o' (h.same ag) a n q in
        (c a v.0 n q v.2).agreed (overlap_by (bind o k) (bind o' k') (k a n) (k' v.0 n) (at_end a n q) (two_of a n q) (second_behind a n q) (two_of' ag a v.0 n q v.1) (λ b. rw (goes_on' v.0 n v.1) at b) ov)

    agree : Overlap Both Both' (bind o k) (bind o' k') at → Agree Both (bind o k) at
    agree ov i l = go (first_agree ov i l) where
      on : (a : A) (n : ℕ) → o ≡ read a n → (get_or f i 0 ≡ get_or g i 0) ⊎ Covered g (T₂ a n) (k a n) i → (get_or f i 0 ≡ get_or g i 0) ⊎ Covered g Both (bind o k) i
      on a n q (inl e) = inl e
      on a n q (inr (typed x j t v)) = inr (typed x j (inr (a, n, q, t)) v)
      on a n q (inr (behind b)) = inr (behind (rw (goes_on a n q) b))

      go : (get_or f i 0 ≡ get_or g i 0) ⊎ Covered g T₁ o i → (get_or f i 0 ≡ get_or g i 0) ⊎ Covered g Both (bind o k) i
      go (inl e) = inl e
      go (inr (typed x j t v)) = inr (typed x j (inl t) v)
      go (inr (behind b)) = let w = end_of o i b in on w.0 w.1 w.2 (second_agree ov (first_agree ov) w.0 w.1 w.2 i w.3)

    pub twin-bind : Twin S Both (λ x. T₁' x ⊎ ((a : A) × (n : ℕ) × (o' ≡ read a n) × T₂' a n x)) at (bind o k) (bind o' k')
    twin-bind = record {
      ahead = λ s b. h.ahead s (first_behind s b);
      lies = lie;
      single = alone;
      same = λ ag. same_bind o o' k k' (h.same (first ag)) (λ a a' n q w. (c a a' n q w).same (second a n q ag));
      kept = keep;
      back = give;
      agreed = agree;
    }

  pub quiet_check : {A : Type 0} {R : A → A → Type 0} {at : ℕ} (b : Bool) (n p : ℕ) (o o' : Answer A)
      → (b ≡ true → Wordless R at o o') → Wordless R at (check b n p o) (check b n p o')
  quiet_check b n p o o' h = twin-map (λ x t. absurd t) (λ x w. w.1) (λ x t. absurd t) (λ x w. w.1) (twin-check b n p o o' h)

  -- where what follows has no texts, or what comes first has none
  pub twin_then : {A B : Type 0} {R : A → A → Type 0} {S : B → B → Type 0} (T T' : Span → Type 0) {at : ℕ} (o o' : Answer A) (k k' : A → ℕ → Answer B) → ((a : A) → R a a)
      → Twin R T T' at o o' → ((a a' : A) (n : ℕ) → o ≡ read a n → R a a' → Wordless S n (k a n) (k' a' n)) → Twin S T T' at (bind o k) (bind o' k')
  twin_then {A = A} T T' o o' k k' own h c =
      twin-map (λ x t. inl t) (λ x w. only T o x w) (λ x t. inl t) (λ x w. only T' o' x w) (twin-bind T T' (λ a n x. ⊥) (λ a n x. ⊥) o o' k k' own h c) where
        only : (T : Span → Type 0) (o : Answer A) (x : Span) → T x ⊎ ((a : A) × (n : ℕ) × (o ≡ read a n) × ⊥) → T x
        only T o x (inl t) = t
        only T o x (inr w) = absurd w.3

  pub then_twin : {A B : Type 0} {S : B → B → Type 0} (T T' : A → ℕ → Span → Type 0) {at : ℕ} (o o' : Answer A) (k k' : A → ℕ → Answer B)
      → Quiet at o o' → ((a : A) (n : ℕ) → o ≡ read a n → Twin S (T a n) (T' a n) n (k a n) (k' a n))
      → Twin S (λ x. (a : A) × (n : ℕ) × (o ≡ read a n) × T a n x) (λ x. (a : A) × (n : ℕ) × (o' ≡ read a n) × T' a n x) at (bind o k) (bind o' k')
  then_twin {A = A} T T' o o' k k' h c =
      twin-map (λ x w. inr w) (λ x w. only T o x w) (λ x w. inr w) (λ x w. only T' o' x w)
      (twin-bind (λ x. ⊥) (λ x. ⊥) T T' o o' k k' (λ a. refl) h (λ a a' n q w. rw (← w) (c a n q))) where
        only : (T : A → ℕ → Span → Type 0) (o : Answer A) (x : Span) → ⊥ ⊎ ((a : A) × (n : ℕ) × (o ≡ read a n) × T a n x) → (a : A) × (n : ℕ) × (o ≡ read a n) × T a n x
        only T o x (inl t) = absurd t
        only T o x (inr w) = w

  pub quiet_bind : {A B : Type 0} {S : B → B → Type 0} {at : ℕ} (o o' : Answer A) (k k' : A → ℕ → Answer B) → Quiet at o o'
      → ((a : A) (n : ℕ) → o ≡ read a n → Wordless S n (k a n) (k' a n)) → Wordless S at (bind o k) (bind o' k')
  quiet_bind o o' k k' h c = twin_then (λ x. ⊥) (λ x. ⊥) o o' k k' (λ a. refl) h (λ a a' n q w. rw (← w) (c a n q))

-- bytes that stand in the one file stand in the other, where they agree
pub prefix_same : (f g : List ℕ) → length f ≡ length g → (at e : ℕ) (bs : List ℕ) → drop at f ≡ bs ++ drop e f → e ≡ at + length bs
    → ((i : ℕ) → at ≤ i → i < e → get_or f i 0 ≡ get_or g i 0) → drop at g ≡ bs ++ drop e g
prefix_same f g equal at e bs d q h =
    let n = length bs in
    let lf : length (drop at f) ≡ length (drop at g) = length-drop at f ∙ ap (λ (k : ℕ). k - at) equal ∙ sym (length-drop at g) in
    let ln : n ≤ length (drop at f) = rw (d, length-append bs (drop e f)) (omega arith) in
    let lt : length (take n (drop at f)) ≡ length (take n (drop at g)) = length-take-le n (drop at f) ln ∙ sym (length-take-le n (drop at g) (omega arith)) in
    let same : take n (drop at f) ≡ take n (drop at g) = ext_get_or 0 (take n (drop at f)) (take n (drop at g)) lt (λ i k.
    let l : i < n = omega (arith, length-take-le n (drop at f) ln) in
    get_or-take n (drop at f) i 0 l ∙ get_or-drop at f i 0 ∙ h (at + i) (omega arith) (omega arith) ∙ sym (get_or-drop at g i 0) ∙ sym (get_or-take n (drop at g) i 0 l)) in
    let is : take n (drop at f) ≡ bs = rw d (take-append_seam bs (drop e f)) in
    sym (take-append-drop n (drop at g)) ∙ rw (← same, is, drop-drop n at g, q)

-- files that agree from a place on are the same from there on
pub tail_same : (f g : List ℕ) → length f ≡ length g → (at : ℕ) → ((i : ℕ) → at ≤ i → get_or f i 0 ≡ get_or g i 0) → drop at f ≡ drop at g
tail_same f g equal at h =
    ext_get_or 0 (drop at f) (drop at g) (length-drop at f ∙ ap (λ (n : ℕ). n - at) equal ∙ sym (length-drop at g))
    (λ i k. get_or-drop at f i 0 ∙ h (at + i) (omega arith) ∙ sym (get_or-drop at g i 0))

module _ (f g : List ℕ) where
  -- what has no text agrees in all bytes that it reads
  pub plainly : {A : Type 0} {T : Span → Type 0} {o : Answer A} {at : ℕ} (i : ℕ) → ((x : Span) → T x → ⊥) → (Behind o i → ⊥) → Agree f g T o at → at ≤ i → get_or f i 0 ≡ get_or g i 0
  plainly {T = T} {o = o} i none short h l = go (h i l) where
    go : (get_or f i 0 ≡ get_or g i 0) ⊎ Covered g T o i → get_or f i 0 ≡ get_or g i 0
    go (inl e) = e
    go (inr (typed x j t v)) = absurd (none x t)
    go (inr (behind b)) = absurd (short b)

  -- a reader whose layout is known, and that goes by what stands from its place on alone
  module _ (small : Small f) (equal : length f ≡ length g) {A : Type 0} (F : A → List ℕ → Type 0) (r : List ℕ → ℕ → Answer A)
      (reads : (file : List ℕ) → Reads file F (r file)) (suffix : (at : ℕ) → drop at f ≡ drop at g → r f at ≡ r g at) where
    reader_same : (at : ℕ) → Agree f g (λ x. ⊥) (r f at) at → SameBy ◌≡◌ (r f at) (r g at)
    reader_same at h = same_equal (r f at) (r g at) (go (r f at) refl) where
      go : (o : Answer A) → r f at ≡ o → r f at ≡ r g at
      go (refused n p) q = suffix at (tail_same f g equal at (λ i l. plainly i (λ x t. t) (λ b. no_end (r f at) n p q i b) h l))
      go (read a e) q =
          let v = ((reads f).sound small at).got q in
          let bs = v.0 in
          q ∙ ap (read a) v.3 ∙ sym ((reads g).complete a bs (drop e g) at v.1 (prefix_same f g equal at e bs v.2 v.3
          (λ i l m. plainly i (λ x t. t) (λ b. omega (arith, ends_at (r f at) a e q i b)) h l)))

    reader_ahead : (at s : ℕ) → Behind (r f at) s → at ≤ s
    unfolding Behind
    reader_ahead at s b = go (r f at) refl b where
      go : (o : Answer A) → r f at ≡ o → Behind o s → at ≤ s
      go (refused n p) q b = absurd b
      go (read a e) q b = omega (arith, (((reads f).sound small at).got q).3)

    pub reader-twin : (at : ℕ) → Quiet f g at (r f at) (r g at)
    reader-twin at = wordless f g (reader_ahead at) (reader_same at)

-- The codes of a name's heads are complained of where the heads are. Assumes nothing.
use mathlib.Core.Path.{◌≡◌, refl, sym, ap, ◌∙◌}
use mathlib.Core.Bool.{Bool, true, false, ◌&&◌, ◌||◌, cond}
use mathlib.Core.List.{List, [], ◌∷◌, ◌++◌, append_assoc, append-nil}
use mathlib.Core.Logic.{◌⊎◌, inl, inr}
use Prim.Native.Nat.{ℕ, suc, ◌+◌, ◌*◌, ◌/◌, ◌%◌, ◌<◌}
use native.Mathlib.Omega.{arith}
use lib.Dec.{eqb, ltb, leb}
use lib.ListN.{length}
use borrow.Author.Tests.{eqb-true, eqb-false, eq-eqb, ne_eqb, lt-ltb, le-ltb, ltb-true, lt-leb, le-leb}
use Rattle.laws.specs.Small.{both}
use Rattle.layout.specs.Target.{enum, kind_of, mesh_kind, is_value}
use Rattle.layout.specs.Name.{Name, simple, one, two, long}
use Rattle.layout.specs.Number.{between}
use Rattle.layout.specs.Kind.{alike, lookup, target, targets, reader, readers, KindEntry, kind_entry}
use Rattle.layout.specs.EnumList.{EnumEntry, EnumSize, size_in}
use Rattle.layout.specs.Fixed.{sizes}
use Rattle.layout.specs.Named.{unknown, known, fixed_kind, meshed, plain, listed_enum, type_of, size_or_four, enum_of}
use Rattle.layout.specs.Complaint.{is_known, valuable, fitting, unless, type_faults, reader_faults}
use Rattle.names.specs.Codes.{kind_is_small, codes-append}
use Rattle.names.specs.Heading.{headings}
use Rattle.names.specs.Kind.{node, word, enum_kind, kind_in, codes}
use Rattle.targets.specs.Finite.{all_below, below_is, agrees, agree}
use Rattle.targets.specs.Judge.{listed_kind, head_ok, value_ok, bad_arguments, bad_enum, bad_reader}
use Rattle.targets.specs.Word.{word-node, word-place}
use Rattle.targets.specs.Coded.{kind_taken}

plain-tested : ℕ → Bool
plain-tested k = agrees (is_known (plain k)) (between 1 14 k || (between 20 34 k || between 37 40 k))

pub plain_test : (k : ℕ) → k < 60 → (between 1 14 k || (between 20 34 k || between 37 40 k)) ≡ is_known (plain k)
unfolding plain-tested agrees all_below is_known meshed plain fixed_kind sizes
plain_test k h = agree (is_known (plain k)) (between 1 14 k || (between 20 34 k || between 37 40 k)) (below_is plain-tested 60 k refl h)

value-tested : ℕ → Bool
value-tested k = agrees (valuable (plain k)) (value_ok k)

value_test : (k : ℕ) → k < 60 → value_ok k ≡ valuable (plain k)
unfolding value-tested agrees all_below value_ok listed_kind meshed plain fixed_kind sizes is_value kind_of mesh_kind
value_test k h = agree (valuable (plain k)) (value_ok k) (below_is value-tested 60 k refl h)

eqb_as : (a b c d : ℕ) (x : Bool) → (a ≡ b → c ≡ d) → (c ≡ d → a ≡ b) → eqb c d ≡ x → eqb a b ≡ x
eqb_as a b c d true f g e = eq-eqb a b (g (eqb-true c d e))
eqb_as a b c d false f g e = ne_eqb a b (λ q. eqb-false c d e (f q))

-- the code of a head with n arguments is that of another head exactly if its kind is
same_node : (k m n : ℕ) → eqb (node k n) (node m n) ≡ eqb k m
same_node k m n = eqb_as (k + 64 * n) (m + 64 * n) k m (eqb k m) (λ q. omega arith) (λ q. ap (λ (x : ℕ). x + 64 * n) q) refl

-- no kind of a head that is no enum's is 60 or more
module _ (k : ℕ) (small : k < 60) where
  none_head : head_ok (node k 0) ≡ is_known (plain k)
  unfolding head_ok
  none_head = let z : k + 64 * 0 ≡ k = omega arith in rw (z, lt-ltb k 60 small)

  one_head : head_ok (node k 1) ≡ cond (eqb k 16) true (eqb k 18)
  unfolding head_ok listed_kind
  one_head =
      rw (
        le-ltb (k + 64 * 1) 60 (omega arith),
        le-leb 60 (k + 64 * 1) (omega arith),
        lt-leb (k + 64 * 1) 63 (omega arith),
        eqb_as (k + 64 * 1) 80 k 16 (eqb k 16) (λ q. omega arith) (λ q. omega arith) refl,
        eqb_as (k + 64 * 1) 82 k 18 (eqb k 18) (λ q. omega arith) (λ q. omega arith) refl,
        ne_eqb (k + 64 * 1) 147 (λ q. omega arith),
      ) (last (eqb k 16) (eqb k 18)) where
        last : (a b : Bool) → cond a true (cond b true false) ≡ cond a true b
        last true b = refl
        last false true = refl
        last false false = refl

  two_head : head_ok (node k 2) ≡ eqb k 19
  unfolding head_ok listed_kind
  two_head =
      rw (
        le-ltb (k + 64 * 2) 60 (omega arith),
        le-leb 60 (k + 64 * 2) (omega arith),
        lt-leb (k + 64 * 2) 63 (omega arith),
        ne_eqb (k + 64 * 2) 80 (λ q. omega arith),
        ne_eqb (k + 64 * 2) 82 (λ q. omega arith),
        eqb_as (k + 64 * 2) 147 k 19 (eqb k 19) (λ q. omega arith) (λ q. omega arith) refl,
      )

  none_value : value_ok (node k 0) ≡ valuable (plain k)
  none_value = let z : k + 64 * 0 ≡ k = omega arith in rw z (value_test k small)

-- a head with arguments is no value type's but Nullable's
no_value : (b : ℕ) → 63 < b → value_ok b ≡ false
unfolding value_ok listed_kind
no_value b h = rw (lt-leb b 11 (omega arith), lt-leb b 30 (omega arith), lt-leb b 63 (omega arith), ne_eqb b 12 (λ q. omega arith)) (no_both (leb 1 b) (leb 20 b) (leb 60 b)) where
  no_both : (x y z : Bool) → cond ((x && false) || (y && false)) true (cond (z && false) true false) ≡ false
  no_both true true true = refl
  no_both true true false = refl
  no_both true false true = refl
  no_both true false false = refl
  no_both false true true = refl
  no_both false true false = refl
  no_both false false true = refl
  no_both false false false = refl

-- the code of a head has its kind and its number of arguments
module _ (es : List EnumEntry) (own : Bool) (h : List ℕ) (n p : ℕ) where
  pub node_is : n < 4 → word (kind_in es own h n) n p % 256 ≡ node (kind_in es own h n) n
  node_is b = word-node (kind_in es own h n) n p (kind_is_small es own h n) b

  pub place_is : n < 4 → word (kind_in es own h n) n p / 256 ≡ p
  place_is b = word-place (kind_in es own h n) n p (kind_is_small es own h n) b

no_and : (b : Bool) → (false || (b && false)) ≡ false
no_and true = refl
no_and false = refl

-- no target name and no reader has a kind of 60 or more
below_60 : List KindEntry → Bool
below_60 [] = true
below_60 (kind_entry h k ∷ es) = ltb k 60 && below_60 es

found_below : (b : Bool) (k m : ℕ) → k < 60 → m < 60 → cond b k m < 60
found_below true k m h g = h
found_below false k m h g = g

lookup-below : (h : List ℕ) (es : List KindEntry) → below_60 es ≡ true → lookup h es < 60
unfolding lookup below_60
lookup-below h [] e = omega arith
lookup-below h (kind_entry n k ∷ es) e =
    let q = both (ltb k 60) (below_60 es) e in
    found_below (alike h n) k (lookup h es) (ltb-true k 60 q.0) (lookup-below h es q.1)

target_below : (h : List ℕ) → lookup h targets < 60
unfolding below_60 targets target
target_below h = lookup-below h targets refl

reader-below : (h : List ℕ) → lookup h readers < 60
unfolding below_60 readers reader
reader-below h = lookup-below h readers refl

-- a head that is no target name, with no argument: a listed enum type, or nothing known
listed-judged : (after : Bool) (h : List ℕ) (z : ℕ) → (z ≡ 0) ⊎ EnumSize z
    → (cond after (value_ok (node (enum_kind z) 0)) (head_ok (node (enum_kind z) 0)) ≡ fitting after (listed_enum h z)) × ((eqb (node (enum_kind z) 0) 0 || listed_kind (node (enum_kind z) 0)) ≡ true)
unfolding EnumSize listed_enum enum_kind is_known is_value kind_of meshed plain fixed_kind sizes head_ok value_ok listed_kind
listed-judged true h z (inl w) = rw w (refl, refl)
listed-judged false h z (inl w) = rw w (refl, refl)
listed-judged true h z (inr (inl w)) = rw w (refl, refl)
listed-judged false h z (inr (inl w)) = rw w (refl, refl)
listed-judged true h z (inr (inr (inl w))) = rw w (refl, refl)
listed-judged false h z (inr (inr (inl w))) = rw w (refl, refl)
listed-judged true h z (inr (inr (inr (inl w)))) = rw w (refl, refl)
listed-judged false h z (inr (inr (inr (inl w)))) = rw w (refl, refl)
listed-judged true h z (inr (inr (inr (inr w)))) = rw w (refl, refl)
listed-judged false h z (inr (inr (inr (inr w)))) = rw w (refl, refl)

simple-judged : (after : Bool) (h : List ℕ) (k z : ℕ) → k < 60 → (z ≡ 0) ⊎ EnumSize z → (b : Bool)
    → cond after (value_ok (node (cond b (enum_kind z) k) 0)) (head_ok (node (cond b (enum_kind z) k) 0)) ≡ fitting after (cond b (listed_enum h z) (plain k))
simple-judged after h k z s w true = (listed-judged after h z w).0
simple-judged after h k z s w false = rw (none_value k s, none_head k s)

own_judged : (h : List ℕ) (k z : ℕ) → k < 60 → (z ≡ 0) ⊎ EnumSize z → (b : Bool) → eqb k 0 ≡ b
    → (eqb (node (cond b (enum_kind z) k) 0) 0 || listed_kind (node (cond b (enum_kind z) k) 0)) ≡ is_known (cond b (known (enum h (size_or_four z))) unknown)
unfolding is_known listed_kind
own_judged h k z s w true e = (listed-judged true h z w).1
own_judged h k z s w false e =
    let y : k + 64 * 0 ≡ k = omega arith in
    rw (y, e, lt-leb 60 k s)

module _ (es : List EnumEntry) (sized : (h : List ℕ) → (size_in es h ≡ 0 → ⊥) → EnumSize (size_in es h)) where
  size_is : (h : List ℕ) → (size_in es h ≡ 0) ⊎ EnumSize (size_in es h)
  size_is h = go (eqb (size_in es h) 0) refl where
    go : (b : Bool) → eqb (size_in es h) 0 ≡ b → (size_in es h ≡ 0) ⊎ EnumSize (size_in es h)
    go true e = inl (eqb-true (size_in es h) 0 e)
    go false e = inr (sized h (eqb-false (size_in es h) 0 e))

  -- a head with arguments has the kind that it names
  taken : (h : List ℕ) (n p : ℕ) → n < 3 → word (kind_in es false h (suc n)) (suc n) p % 256 ≡ node (lookup h targets) (suc n)
  taken h n p b = node_is es false h (suc n) p (omega arith) ∙ ap (λ (k : ℕ). node k (suc n)) (kind_taken es h n)

  -- the codes of an argument's heads are complained of where the heads are
  pub argument-judged : (n : Name) (p : ℕ) (after : Bool) (r : List ℕ) → bad_arguments after (codes es false (headings p n) ++ r) ≡ type_faults es after p n ++ bad_arguments false r
  unfolding bad_arguments headings codes type_of type_faults kind_in
  argument-judged (simple h t) p after r =
      let k = kind_in es false h 0 in
      let s : k < 64 = kind_is_small es false h 0 in
      rw (
        node_is es false h 0 p (omega arith),
        place_is es false h 0 p (omega arith),
        ne_eqb (k + 64 * 0) 80 (λ q. omega arith),
        simple-judged after h (lookup h targets) (size_in es h) (target_below h) (size_is h) (eqb (lookup h targets) 0),
      )
  argument-judged (one h a t) p after r =
      let k = lookup h targets in
      let s : k < 60 = target_below h in
      let i = p + (length h + 4) in
      rw (
        taken h 0 p (omega arith),
        place_is es false h 1 p (omega arith),
        no_value (k + 64 * 1) (omega arith),
        one_head k s,
        same_node k 16 1,
        argument-judged a i (eqb k 16) r,
      )
      (sym (append_assoc (unless (cond after false (cond (eqb k 16) true (eqb k 18))) p) (type_faults es (eqb k 16) i a) (bad_arguments false r)))
  argument-judged (two h a c t) p after r =
      let k = lookup h targets in
      let s : k < 60 = target_below h in
      let i = p + (length h + 4) in
      let j = p + (length h + 4 + long a + 3) in
      let x = codes es false (headings i a) in
      let y = codes es false (headings j c) in
      let u = type_faults es false i a in
      let v = type_faults es false j c in
      let w = unless (cond after false (eqb k 19)) p in
      rw (
        taken h 1 p (omega arith),
        place_is es false h 2 p (omega arith),
        codes-append es (headings i a) (headings j c),
        append_assoc x y r,
        no_value (k + 64 * 2) (omega arith),
        two_head k s,
        ne_eqb (k + 64 * 2) 80 (λ q. omega arith),
        argument-judged a i false (y ++ r),
        argument-judged c j false r,
      )
      (ap (λ (l : List ℕ). w ++ l) (sym (append_assoc u v (bad_arguments false r))) ∙ sym (append_assoc w (u ++ v) (bad_arguments false r)))

  -- the heads of one argument alone
  alone : (n : Name) (p : ℕ) (after : Bool) → bad_arguments after (codes es false (headings p n)) ≡ type_faults es after p n
  unfolding bad_arguments
  alone n p after = ap (bad_arguments after) (sym (append-nil (codes es false (headings p n)))) ∙ argument-judged n p after [] ∙ append-nil (type_faults es after p n)

  enum_judged : (n : Name) (p : ℕ) → bad_enum (codes es false (headings p n)) ≡ unless (is_known (enum_of es n)) p
  unfolding bad_enum headings codes enum_of is_known kind_in listed_kind
  enum_judged (simple h t) p =
      rw (node_is es false h 0 p (omega arith), place_is es false h 0 p (omega arith), own_judged h (lookup h targets) (size_in es h) (target_below h) (size_is h) (eqb (lookup h targets) 0) refl)
  enum_judged (one h a t) p =
      let k = lookup h targets in
      rw (taken h 0 p (omega arith), place_is es false h 1 p (omega arith), ne_eqb (k + 64 * 1) 0 (λ q. omega arith), lt-leb (k + 64 * 1) 63 (omega arith), no_and (leb 60 (k + 64 * 1)))
  enum_judged (two h a b t) p =
      let k = lookup h targets in
      rw (taken h 1 p (omega arith), place_is es false h 2 p (omega arith), ne_eqb (k + 64 * 2) 0 (λ q. omega arith), lt-leb (k + 64 * 2) 63 (omega arith), no_and (leb 60 (k + 64 * 2)))

  -- a reader's own head
  own_node : (h : List ℕ) (n p : ℕ) → n < 4 → (word (lookup h readers) n p % 256 ≡ node (lookup h readers) n) × (word (lookup h readers) n p / 256 ≡ p)
  own_node h n p b =
      let s : lookup h readers < 64 = omega (arith, reader-below h) in
      (word-node (lookup h readers) n p s b, word-place (lookup h readers) n p s b)

  -- the codes of the heads of a reader's name are complained of where the heads are
  pub reader-judged : (n : Name) (p : ℕ) → bad_reader (codes es true (headings p n)) ≡ reader_faults es p n
  unfolding bad_reader bad_arguments headings codes kind_in reader_faults
  reader-judged (simple h t) p =
      let k = lookup h readers in
      let b : k < 60 = reader-below h in
      let o = own_node h 0 p (omega arith) in
      rw (o.0, o.1, ne_eqb (k + 64 * 0) 79 (λ q. omega arith), ne_eqb (k + 64 * 0) 81 (λ q. omega arith), none_head k b) (append-nil (unless (is_known (plain k)) p))
  reader-judged (one h a t) p =
      let k = lookup h readers in
      let b : k < 60 = reader-below h in
      let i = p + (length h + 4) in
      let o = own_node h 1 p (omega arith) in
      rw (
        o.0,
        o.1,
        same_node k 15 1,
        same_node k 17 1,
        same_node k 16 1,
        one_head k b,
        alone a i (eqb k 16),
        alone a i false,
        enum_judged a i,
      )
  reader-judged (two h a c t) p =
      let k = lookup h readers in
      let b : k < 60 = reader-below h in
      let i = p + (length h + 4) in
      let j = p + (length h + 4 + long a + 3) in
      let o = own_node h 2 p (omega arith) in
      rw (
        o.0,
        o.1,
        ne_eqb (k + 64 * 2) 79 (λ q. omega arith),
        ne_eqb (k + 64 * 2) 81 (λ q. omega arith),
        two_head k b,
        ne_eqb (k + 64 * 2) 80 (λ q. omega arith),
        codes-append es (headings i a) (headings j c),
        argument-judged a i false (codes es false (headings j c)),
        alone c j false,
      )

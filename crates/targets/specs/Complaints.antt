-- 11 complains of a head exactly where the name has no target. Assumes nothing.
use Rattle.std.specs.Prelude.{◌≡◌, Bool, not, ◌&&◌, ℕ, ◌+◌, ◌≤◌, eqb, length}
use Rattle.std.proofs.Math.Path.{refl, ap}
use Rattle.std.proofs.Common.{sym, ◌∙◌}
use Rattle.std.proofs.Math.Bool.{true, false, cond}
use mathlib.Core.List.{List, [], ◌∷◌, ◌++◌}
use native.Mathlib.Omega.{arith}
use Rattle.laws.specs.Small.{differ}
use Rattle.layout.specs.Target.{Target, nullable, list, dictionary, kind_of, is_value}
use Rattle.layout.specs.Name.{Tail, Name, simple, one, two, long, long_tail}
use Rattle.layout.specs.Kind.{lookup, targets, readers}
use Rattle.layout.specs.EnumList.{EnumEntry}
use Rattle.layout.specs.Named.{Typed, unknown, known, plain, nullable_of, wrapped, paired, type_of, enum_of, array_of, reader_of}
use Rattle.layout.specs.Complaint.{is_known, valuable, fitting, unless, type_faults, reader_faults, leftmost}

-- nothing is complained of
unfoldable pub fine : List ℕ → Bool
fine [] = true
fine (p ∷ ps) = false

fine-append : (x y : List ℕ) → fine (x ++ y) ≡ (fine x && fine y)
unfolding fine
fine-append [] y = refl
fine-append (p ∷ x) y = refl

fine-unless : (b : Bool) (p : ℕ) → fine (unless b p) ≡ b
unfolding fine unless
fine-unless true p = refl
fine-unless false p = refl

nullable_known : (v : Bool) (t : Target) → (is_known (cond v (known (nullable t)) unknown) ≡ v) × (valuable (cond v (known (nullable t)) unknown) ≡ false)
unfolding is_known is_value kind_of
nullable_known true t = (refl, refl)
nullable_known false t = (refl, refl)

one_known : (after p q : Bool) (t : Target) → (cond after false (cond p true q) && fitting p (known t)) ≡ fitting after (cond p (nullable_of t) (cond q (known (list t)) unknown))
unfolding nullable_of is_known is_value kind_of
one_known true true q t = sym (nullable_known (is_value t && not (eqb (kind_of t) 16)) t).1
one_known true false true t = refl
one_known true false false t = refl
one_known false true q t = sym (nullable_known (is_value t && not (eqb (kind_of t) 16)) t).0
one_known false false true t = refl
one_known false false false t = refl

-- an argument that is unknown
and_false : (b : Bool) → (b && false) ≡ false
and_false true = refl
and_false false = refl

no_type : (after : Bool) → fitting after unknown ≡ false
unfolding is_known
no_type true = refl
no_type false = refl

one_is : (after : Bool) (k : ℕ) (r : Typed) → (cond after false (cond (eqb k 16) true (eqb k 18)) && fitting (eqb k 16) r) ≡ fitting after (wrapped k r)
unfolding wrapped
one_is after k unknown = rw (no_type (eqb k 16), no_type after) (and_false (cond after false (cond (eqb k 16) true (eqb k 18))))
one_is after k (known t) = one_known after (eqb k 16) (eqb k 18) t

two_known : (after p : Bool) (t u : Target) → (cond after false p && (fitting false (known t) && fitting false (known u))) ≡ fitting after (cond p (known (dictionary t u)) unknown)
unfolding is_known is_value kind_of
two_known true true t u = refl
two_known true false t u = refl
two_known false true t u = refl
two_known false false t u = refl

two_is : (after : Bool) (k : ℕ) (r s : Typed) → (cond after false (eqb k 19) && (fitting false r && fitting false s)) ≡ fitting after (paired k r s)
unfolding paired is_known
two_is after k unknown s = and_false (cond after false (eqb k 19)) ∙ sym (no_type after)
two_is after k (known t) unknown = and_false (cond after false (eqb k 19)) ∙ sym (no_type after)
two_is after k (known t) (known u) = two_known after (eqb k 19) t u

array_known : (r : Typed) → is_known (array_of r) ≡ is_known r
unfolding array_of is_known
array_known unknown = refl
array_known (known t) = refl

pick-apart : (p : Bool) (x y : Typed) → is_known (cond p x y) ≡ cond p (is_known x) (is_known y)
pick-apart true x y = refl
pick-apart false x y = refl

fine-pick : (p : Bool) (x y : List ℕ) → fine (cond p x y) ≡ cond p (fine x) (fine y)
fine-pick true x y = refl
fine-pick false x y = refl

module _ (es : List EnumEntry) where
  one_typed : (h : List ℕ) (a : Name) (t : Tail) → wrapped (lookup h targets) (type_of es a) ≡ type_of es (one h a t)
  unfolding type_of
  one_typed h a t = refl

  two_typed : (h : List ℕ) (a b : Name) (t : Tail) → paired (lookup h targets) (type_of es a) (type_of es b) ≡ type_of es (two h a b t)
  unfolding type_of
  two_typed h a b t = refl

  -- an argument is complained of exactly if it has no type that may stand there
  type_fine : (n : Name) (under : Bool) (at : ℕ) → fine (type_faults es under at n) ≡ fitting under (type_of es n)
  unfolding type_faults
  type_fine (simple h t) under at = fine-unless (fitting under (type_of es (simple h t))) at
  type_fine (one h a t) under at =
      let k = lookup h targets in
      let p = at + (length h + 4) in
      let c = cond under false (cond (eqb k 16) true (eqb k 18)) in
      let e : (fine (unless c at) && fine (type_faults es (eqb k 16) p a)) ≡ fitting under (wrapped k (type_of es a)) = rw (fine-unless c at, type_fine a (eqb k 16) p) (one_is under k (type_of es a)) in
      fine-append (unless c at) (type_faults es (eqb k 16) p a) ∙ e ∙ ap (fitting under) (one_typed h a t)
  type_fine (two h a b t) under at =
      let k = lookup h targets in
      let p = at + (length h + 4) in
      let q = at + (length h + 4 + long a + 3) in
      let c = cond under false (eqb k 19) in
      let x = type_faults es false p a in
      let y = type_faults es false q b in
      let e : (fine (unless c at) && fine (x ++ y)) ≡ fitting under (paired k (type_of es a) (type_of es b)) = rw (fine-unless c at, fine-append x y, type_fine a false p, type_fine b false q) (two_is under k (type_of es a) (type_of es b)) in
      fine-append (unless c at) (x ++ y) ∙ e ∙ ap (fitting under) (two_typed h a b t)

  -- 11: a reader's name is complained of exactly if it has no target
  pub reader-fine : (n : Name) (at : ℕ) → fine (reader_faults es at n) ≡ is_known (reader_of es n)
  unfolding reader_faults reader_of
  reader-fine (simple h t) at = fine-unless (is_known (plain (lookup h readers))) at
  reader-fine (one h a t) at =
      let k = lookup h readers in
      let p = at + (length h + 4) in
      let r = type_of es a in
      let c = cond (eqb k 16) true (eqb k 18) in
      let w : fine (unless c at ++ type_faults es (eqb k 16) p a) ≡ is_known (wrapped k r)
      = rw (fine-append (unless c at) (type_faults es (eqb k 16) p a), fine-unless c at, type_fine a (eqb k 16) p) (one_is false k r) in
      rw (
        fine-pick (eqb k 15) (unless (is_known (enum_of es a)) p) (cond (eqb k 17) (type_faults es false p a) (unless c at ++ type_faults es (eqb k 16) p a)),
        fine-pick (eqb k 17) (type_faults es false p a) (unless c at ++ type_faults es (eqb k 16) p a),
        fine-unless (is_known (enum_of es a)) p,
        type_fine a false p,
        w,
        pick-apart (eqb k 15) (enum_of es a) (cond (eqb k 17) (array_of r) (wrapped k r)),
        pick-apart (eqb k 17) (array_of r) (wrapped k r),
        array_known r,
      )
  reader-fine (two h a b t) at =
      let k = lookup h readers in
      let p = at + (length h + 4) in
      let q = at + (length h + 4 + long a + 3) in
      let x = type_faults es false p a in
      let y = type_faults es false q b in
      let e : (fine (unless (eqb k 19) at) && fine (x ++ y)) ≡ is_known (paired k (type_of es a) (type_of es b))
      = rw (fine-unless (eqb k 19) at, fine-append x y, type_fine a false p, type_fine b false q) (two_is false k (type_of es a) (type_of es b)) in
      fine-append (unless (eqb k 19) at) (x ++ y) ∙ e

  -- the leftmost place is one that is complained of
  pub unknown-placed : (n : Name) (at : ℕ) → reader_of es n ≡ unknown → (ps : List ℕ) × (reader_faults es at n ≡ leftmost (reader_faults es at n) ∷ ps)
  unfolding is_known leftmost fine
  unknown-placed n at e = go (reader_faults es at n) (reader-fine n at ∙ ap is_known e) where
    go : (ps : List ℕ) → fine ps ≡ false → (qs : List ℕ) × (ps ≡ leftmost ps ∷ qs)
    go [] q = differ cc
    go (p ∷ ps) q = (ps, refl)

-- each place is at most so far on
unfoldable Upto : ℕ → List ℕ → Type 0
Upto m [] = Unit {0}
Upto m (p ∷ ps) = (p ≤ m) × Upto m ps

upto-append : (m : ℕ) (x y : List ℕ) → Upto m x → Upto m y → Upto m (x ++ y)
unfolding Upto
upto-append m [] y a b = b
upto-append m (p ∷ x) y a b = (a.0, upto-append m x y a.1 b)

upto-unless : (m : ℕ) (t : Bool) (p : ℕ) → p ≤ m → Upto m (unless t p)
unfolding Upto unless
upto-unless m true p h = tt
upto-unless m false p h = (h, tt)

upto-more : (m n : ℕ) (x : List ℕ) → m ≤ n → Upto m x → Upto n x
unfolding Upto
upto-more m n [] h a = tt
upto-more m n (p ∷ x) h a = (omega (arith, a.0), upto-more m n x h a.1)

upto-pick : (m : ℕ) (t : Bool) (x y : List ℕ) → Upto m x → Upto m y → Upto m (cond t x y)
upto-pick m true x y a b = a
upto-pick m false x y a b = b

module _ (es : List EnumEntry) where
  type_upto : (n : Name) (under : Bool) (at : ℕ) → Upto (at + long n) (type_faults es under at n)
  unfolding type_faults long
  type_upto (simple h t) under at = upto-unless _ (fitting under (type_of es (simple h t))) at (omega arith)
  type_upto (one h a t) under at =
      let k = lookup h targets in
      let p = at + (length h + 4) in
      let m = at + (length h + 4 + long a + 2 + long_tail t) in
      upto-append m (unless (cond under false (cond (eqb k 16) true (eqb k 18))) at) (type_faults es (eqb k 16) p a) (upto-unless m _ at (omega arith))
      (upto-more (p + long a) m (type_faults es (eqb k 16) p a) (omega arith) (type_upto a (eqb k 16) p))
  type_upto (two h a b t) under at =
      let k = lookup h targets in
      let p = at + (length h + 4) in
      let q = at + (length h + 4 + long a + 3) in
      let m = at + (length h + 4 + long a + 3 + long b + 2 + long_tail t) in
      let x = type_faults es false p a in
      let y = type_faults es false q b in
      upto-append m (unless (cond under false (eqb k 19)) at) (x ++ y) (upto-unless m _ at (omega arith))
      (upto-append m x y (upto-more (p + long a) m x (omega arith) (type_upto a false p)) (upto-more (q + long b) m y (omega arith) (type_upto b false q)))

  reader_upto : (n : Name) (at : ℕ) → Upto (at + long n) (reader_faults es at n)
  unfolding reader_faults long
  reader_upto (simple h t) at = upto-unless _ (is_known (plain (lookup h readers))) at (omega arith)
  reader_upto (one h a t) at =
      let k = lookup h readers in
      let p = at + (length h + 4) in
      let m = at + (length h + 4 + long a + 2 + long_tail t) in
      let w : (under : Bool) → Upto m (type_faults es under p a) = λ under. upto-more (p + long a) m (type_faults es under p a) (omega arith) (type_upto a under p) in
      upto-pick m (eqb k 15) _ _ (upto-unless m (is_known (enum_of es a)) p (omega arith))
      (upto-pick m (eqb k 17) _ _ (w false) (upto-append m (unless (cond (eqb k 16) true (eqb k 18)) at) (type_faults es (eqb k 16) p a) (upto-unless m _ at (omega arith)) (w (eqb k 16))))
  reader_upto (two h a b t) at =
      let k = lookup h readers in
      let p = at + (length h + 4) in
      let q = at + (length h + 4 + long a + 3) in
      let m = at + (length h + 4 + long a + 3 + long b + 2 + long_tail t) in
      let x = type_faults es false p a in
      let y = type_faults es false q b in
      upto-append m (unless (eqb k 19) at) (x ++ y) (upto-unless m _ at (omega arith))
      (upto-append m x y (upto-more (p + long a) m x (omega arith) (type_upto a false p)) (upto-more (q + long b) m y (omega arith) (type_upto b false q)))

  -- the leftmost complaint is within the name
  pub leftmost-within : (n : Name) (at : ℕ) → leftmost (reader_faults es at n) ≤ at + long n
  unfolding leftmost Upto
  leftmost-within n at = go (reader_faults es at n) (reader_upto n at) where
    go : (ps : List ℕ) → Upto (at + long n) ps → leftmost ps ≤ at + long n
    go [] u = omega arith
    go (p ∷ ps) u = u.0

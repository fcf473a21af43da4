-- The heads that 11 complains of are listed from left to right. Assumes nothing.
use mathlib.Core.Path.{◌≡◌}
use mathlib.Core.Bool.{Bool, true, false, cond}
use mathlib.Core.List.{List, [], ◌∷◌, ◌++◌}
use Prim.Native.Nat.{ℕ, suc, ◌+◌, ◌≤◌}
use native.Mathlib.Omega.{arith}
use lib.Dec.{eqb}
use lib.ListN.{length}
use Rattle.layout.specs.Name.{Name, simple, one, two, long_tail, long}
use Rattle.layout.specs.Kind.{lookup, targets, readers}
use Rattle.layout.specs.EnumList.{EnumEntry}
use Rattle.layout.specs.Named.{plain, type_of, enum_of}
use Rattle.layout.specs.Complaint.{is_known, fitting, unless, type_faults, reader_faults}
use Rattle.name_faults.specs.Names.{From}

-- each place is behind the former, from a place up to another
unfoldable Rising : (from upto : ℕ) → List ℕ → Type 0
Rising from upto [] = from ≤ upto
Rising from upto (p ∷ ps) = (from ≤ p) × Rising (suc p) upto ps

rising_wide : (a b c d : ℕ) (x : List ℕ) → b ≤ a → c ≤ d → Rising a c x → Rising b d x
unfolding Rising
rising_wide a b c d [] h k r = omega arith
rising_wide a b c d (p ∷ x) h k r = (omega (arith, r.0), rising_wide (suc p) (suc p) c d x (omega arith) k r.1)

rising-append : (a b c : ℕ) (x y : List ℕ) → Rising a b x → Rising b c y → Rising a c (x ++ y)
unfolding Rising
rising-append a b c [] y r s = rising_wide b a c c y r (omega arith) s
rising-append a b c (p ∷ x) y r s = (r.0, rising-append (suc p) b c x y r.1 s)

rising-unless : (t : Bool) (p m : ℕ) → suc p ≤ m → Rising p m (unless t p)
unfolding Rising unless
rising-unless true p m h = omega arith
rising-unless false p m h = (omega arith, h)

rising-pick : (a b : ℕ) (t : Bool) (x y : List ℕ) → Rising a b x → Rising a b y → Rising a b (cond t x y)
rising-pick a b true x y r s = r
rising-pick a b false x y r s = s

module _ (es : List EnumEntry) where
  type_rising : (n : Name) (under : Bool) (at : ℕ) → Rising at (suc (at + long n)) (type_faults es under at n)
  unfolding type_faults long
  type_rising (simple h t) under at = rising-unless (fitting under (type_of es (simple h t))) at _ (omega arith)
  type_rising (one h a t) under at =
      let k = lookup h targets in
      let p = at + (length h + 4) in
      let m = suc (at + (length h + 4 + long a + 2 + long_tail t)) in
      rising-append at p m (unless (cond under false (cond (eqb k 16) true (eqb k 18))) at) (type_faults es (eqb k 16) p a) (rising-unless _ at p (omega arith))
      (rising_wide p p (suc (p + long a)) m (type_faults es (eqb k 16) p a) (omega arith) (omega arith) (type_rising a (eqb k 16) p))
  type_rising (two h a b t) under at =
      let k = lookup h targets in
      let p = at + (length h + 4) in
      let q = at + (length h + 4 + long a + 3) in
      let m = suc (at + (length h + 4 + long a + 3 + long b + 2 + long_tail t)) in
      let x = type_faults es false p a in
      let y = type_faults es false q b in
      rising-append at p m (unless (cond under false (eqb k 19)) at) (x ++ y) (rising-unless _ at p (omega arith))
      (rising-append p q m x y (rising_wide p p (suc (p + long a)) q x (omega arith) (omega arith) (type_rising a false p))
      (rising_wide q q (suc (q + long b)) m y (omega arith) (omega arith) (type_rising b false q)))

  reader_rising : (n : Name) (at : ℕ) → Rising at (suc (at + long n)) (reader_faults es at n)
  unfolding reader_faults long
  reader_rising (simple h t) at = rising-unless (is_known (plain (lookup h readers))) at _ (omega arith)
  reader_rising (one h a t) at =
      let k = lookup h readers in
      let p = at + (length h + 4) in
      let m = suc (at + (length h + 4 + long a + 2 + long_tail t)) in
      let w : (under : Bool) → Rising p m (type_faults es under p a)
      = λ under. rising_wide p p (suc (p + long a)) m (type_faults es under p a) (omega arith) (omega arith) (type_rising a under p) in
      rising-pick at m (eqb k 15) _ _ (rising_wide p at m m _ (omega arith) (omega arith) (rising-unless (is_known (enum_of es a)) p m (omega arith)))
      (rising-pick at m (eqb k 17) _ _ (rising_wide p at m m _ (omega arith) (omega arith) (w false))
      (rising-append at p m (unless (cond (eqb k 16) true (eqb k 18)) at) (type_faults es (eqb k 16) p a) (rising-unless _ at p (omega arith)) (w (eqb k 16))))
  reader_rising (two h a b t) at =
      let k = lookup h readers in
      let p = at + (length h + 4) in
      let q = at + (length h + 4 + long a + 3) in
      let m = suc (at + (length h + 4 + long a + 3 + long b + 2 + long_tail t)) in
      let x = type_faults es false p a in
      let y = type_faults es false q b in
      rising-append at p m (unless (eqb k 19) at) (x ++ y) (rising-unless _ at p (omega arith))
      (rising-append p q m x y (rising_wide p p (suc (p + long a)) q x (omega arith) (omega arith) (type_rising a false p))
      (rising_wide q q (suc (q + long b)) m y (omega arith) (omega arith) (type_rising b false q)))

rising_from : (a b place : ℕ) (x : List ℕ) → place ≤ a → Rising a b x → From place x
unfolding Rising From
rising_from a b place [] h r = tt
rising_from a b place (p ∷ x) h r = (omega (arith, r.0), rising_from (suc p) b place x (omega (arith, r.0)) r.1)

-- none that is complained of stands before the first that is listed
pub first_leftmost : (es : List EnumEntry) (n : Name) (at place : ℕ) (others : List ℕ) → reader_faults es at n ≡ place ∷ others → From place others
unfolding Rising
first_leftmost es n at place others e = let r = rw e at (reader_rising es n at) in rising_from (suc place) _ place others (omega arith) r.1

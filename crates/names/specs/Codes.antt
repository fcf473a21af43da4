-- The codes of a name's heads: how many, and that each fits a word. Assumes nothing.
use Rattle.std.specs.Prelude.{◌≡◌, Bool, true, ◌&&◌, cond, eqb, ltb, length}
use Rattle.std.proofs.Math.Path.{refl, ap}
use Rattle.std.proofs.Math.Bool.{false}
use mathlib.Core.List.{List, [], ◌∷◌, ◌++◌}
use Prim.Native.Nat.{ℕ, zero, suc, ◌+◌, ◌*◌, ◌<◌, ◌≤◌}
use Rattle.std.proofs.Common.{arith, length-append, eqb-true, eq-eqb, ltb-true}
use Rattle.laws.specs.Small.{differ, both}
use Rattle.layout.specs.Text.{ascii}
use Rattle.layout.specs.Name.{Name, simple, one, two, Formed, NameHead, long}
use Rattle.layout.specs.Kind.{reader, readers, target, targets, alike, lookup, KindEntry, kind_entry}
use Rattle.layout.specs.EnumList.{EnumEntry, size_in}
use Rattle.names.specs.Parse.{name, name_of}
use Rattle.names.specs.Complete.{length-write}
use Rattle.names.specs.Laws.{read_is_text}
use Rattle.names.specs.Heading.{Heading, heading, headings}
use Rattle.names.specs.Kind.{listed, enum_kind, kind_in, codes}

-- a head has a byte
pub some-head : (h : List ℕ) → NameHead h → 1 ≤ length h
some-head [] w = absurd (w.some refl)
some-head (b ∷ h) w = omega arith

-- 11 codes need 2 bytes at most but for 9: a lawful name has a byte or more for each head, and one of 1,024 bytes has at most 187 heads
pub heads_few : (l at : ℕ) (n : Name) → Formed l n → 11 * length (headings at n) ≤ 2 * long n + 9
unfolding Formed headings long
heads_few zero at n f = absurd f
heads_few (suc l) at (simple h t) f = omega (arith, some-head h f.0)
heads_few (suc l) at (one h a t) f = omega (arith, some-head h f.0, heads_few l (at + (length h + 4)) a f.1)
heads_few (suc l) at (two h a b t) f =
    let p = at + (length h + 4) in
    let q = at + (length h + 4 + long a + 3) in
    omega (arith, some-head h f.0, heads_few l p a f.1, heads_few l q b f.2, length-append (headings p a) (headings q b))

-- a name that is read has few heads
pub read_is_few : (at : ℕ) (s : List ℕ) (n : Name) (k : ℕ) → name_of at s ≡ name n k → 11 * length (headings at n) ≤ 2 * length s + 9
read_is_few at s n k e =
    let g = read_is_text at s n k e in
    omega (arith, heads_few 8 at n g.0, ap length g.1, length-write n [])

-- the test of two texts is equality
pub alike_then : (a b : List ℕ) → alike a b ≡ true → a ≡ b
unfolding alike
alike_then [] [] e = refl
alike_then [] (y ∷ b) e = differ cc
alike_then (x ∷ a) [] e = differ cc
alike_then (x ∷ a) (y ∷ b) e =
    let q = both (eqb x y) (alike a b) e in
    rw (eqb-true x y q.0, alike_then a b q.1)

pub alike_self : (a : List ℕ) → alike a a ≡ true
unfolding alike
alike_self [] = refl
alike_self (x ∷ a) = rw (eq-eqb x x refl, alike_self a)

-- each kindEntry is found by its own head
unfoldable pub all_found : (entries all : List KindEntry) → Bool
all_found [] all = true
all_found (kind_entry h k ∷ es) all = eqb (lookup h all) k && all_found es all

-- no head is listed twice with two kinds
pub listed_found : (own : Bool) → all_found (listed own) (listed own) ≡ true
unfolding all_found lookup alike listed readers targets reader target ascii
listed_found true = refl
listed_found false = refl

small : List KindEntry → Bool
small [] = true
small (kind_entry h k ∷ es) = ltb k 64 && small es

found_small : (b : Bool) (k m : ℕ) → k < 64 → m < 64 → cond b k m < 64
found_small true k m h g = h
found_small false k m h g = g

lookup-small : (h : List ℕ) (es : List KindEntry) → small es ≡ true → lookup h es < 64
unfolding lookup small
lookup-small h [] e = omega arith
lookup-small h (kind_entry n k ∷ es) e =
    let q = both (ltb k 64) (small es) e in
    found_small (alike h n) k (lookup h es) (ltb-true k 64 q.0) (lookup-small h es q.1)

listed_small : (own : Bool) → small (listed own) ≡ true
unfolding small listed readers targets reader target
listed_small true = refl
listed_small false = refl

-- every kind that a head names is below 64
pub lookup_is_small : (own : Bool) (h : List ℕ) → lookup h (listed own) < 64
lookup_is_small own h = lookup-small h (listed own) (listed_small own)

enum-small : (z : ℕ) → enum_kind z < 64
unfolding enum_kind
enum-small z = found_small (eqb z 1) 60 _ (omega arith) (found_small (eqb z 2) 61 _ (omega arith) (found_small (eqb z 4) 62 _ (omega arith) (found_small (eqb z 8) 63 _ (omega arith) (omega arith))))

-- and so is every kind under a list of enum types, so that a word holds it with the number of arguments and a place
pub kind_is_small : (es : List EnumEntry) (own : Bool) (h : List ℕ) (n : ℕ) → kind_in es own h n < 64
unfolding kind_in listed
kind_is_small es true h n = lookup_is_small true h
kind_is_small es false h n =
    found_small (eqb (lookup h targets) 0) _ (lookup h targets) (found_small (eqb n 0) _ 0 (enum-small (size_in es h)) (omega arith)) (lookup_is_small false h)

-- as many codes as heads, in their order
module _ (es : List EnumEntry) where
  pub codes-append : (a b : List Heading) → codes es false (a ++ b) ≡ codes es false a ++ codes es false b
  unfolding codes
  codes-append [] b = refl
  codes-append (heading h n p ∷ a) b = rw (codes-append a b)

  pub codes-length : (own : Bool) (hs : List Heading) → length (codes es own hs) ≡ length hs
  unfolding codes
  codes-length own [] = refl
  codes-length own (heading h n p ∷ hs) = ap suc (codes-length false hs)

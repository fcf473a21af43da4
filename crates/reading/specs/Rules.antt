-- The tests that reading makes of types, and that each says just what the layout's relation says. Assumes nothing.
use Rattle.std.specs.Prelude.{◌≡◌, refl, Bool, true, false, ◌&&◌, ◌||◌, ℕ, zero, suc, ◌<◌, length, get_or}
use Rattle.std.proofs.Common.{ap, arith}
use mathlib.Core.List.{List, [], ◌∷◌, List-discrete}
use Rattle.std.proofs.Math.Decide.{ℕ_discrete}
use Rattle.laws.specs.Small.{differ}
use Rattle.layout.specs.Target.{Target, mesh_discrete, target_discrete, fixed, char, string, object, texture, texture_2d, sprite_font, page, mesh, enum, nullable, array, list, dictionary, Serves, same as serves_same, any as serves_any, picture as serves_picture}
use Rattle.layout.specs.Slot.{Plan}
use Rattle.layout.specs.Head.{Head}
use Rattle.layout.specs.Layout.{Reader}

unfoldable pub decided : {P : Type 0} → Dec P → Bool
decided (yes p) = true
decided (no n) = false

decided-true : {P : Type 0} (d : Dec P) → decided d ≡ true → P
unfolding decided
decided-true (yes p) e = p
decided-true (no n) e = differ cc

true-decided : {P : Type 0} (d : Dec P) → P → decided d ≡ true
unfolding decided
true-decided (yes p) h = refl
true-decided (no n) h = absurd (n h)

-- targets are equal
unfoldable pub same : Target → Target → Bool
same t u = decided (target_discrete ℕ_discrete mesh_discrete (List-discrete ℕ_discrete) t u)

pub same_true : (t u : Target) → same t u ≡ true → t ≡ u
unfolding same
same_true t u e = decided-true (target_discrete ℕ_discrete mesh_discrete (List-discrete ℕ_discrete) t u) e

pub same_refl : (t : Target) → same t t ≡ true
unfolding same
same_refl t = true-decided (target_discrete ℕ_discrete mesh_discrete (List-discrete ℕ_discrete) t t) refl

-- a reader of t serves the declaration d
unfoldable pub serves : Target → Target → Bool
serves d t = same d t || (same d object || (same d texture && same t texture_2d))

pub serves-complete : {d t : Target} → Serves d t → serves d t ≡ true
unfolding serves
serves-complete (serves_same {t = t}) = rw (same_refl t)
serves-complete (serves_any {t = t}) = rw (same_refl object) (either_true (same object t))
  where
    either_true : (b : Bool) → (b || true) ≡ true
    either_true true = refl
    either_true false = refl
serves-complete serves_picture = rw (same_refl texture, same_refl texture_2d) (either_true (same texture texture_2d) (same texture object))
  where
    either_true : (a b : Bool) → (a || (b || true)) ≡ true
    either_true true b = refl
    either_true false true = refl
    either_true false false = refl

pub serves-sound : (d t : Target) → serves d t ≡ true → Serves d t
unfolding serves
serves-sound d t e = go (same d t) (same d object) (same d texture) (same t texture_2d) refl refl refl refl e where
  go : (a b p q : Bool) → same d t ≡ a → same d object ≡ b → same d texture ≡ p → same t texture_2d ≡ q → (a || (b || (p && q))) ≡ true → Serves d t
  go true b p q ea eb ep eq e = rw (same_true d t ea) serves_same
  go false true p q ea eb ep eq e = rw (same_true d object eb) serves_any
  go false false true true ea eb ep eq e = rw (same_true d texture ep, same_true t texture_2d eq) serves_picture
  go false false true false ea eb ep eq e = differ cc
  go false false false q ea eb ep eq e = differ cc

-- the reader that a type id names, unless it is never invoked
pub data Found : Type 0 where
  missing : Found
  found : Target → Found

-- 01: "Object and Texture readers are never invoked"
unfoldable pub invoked : Target → Found
invoked (fixed k) = found (fixed k)
invoked char = found char
invoked string = found string
invoked object = missing
invoked (enum name z) = found (enum name z)
invoked (nullable t) = found (nullable t)
invoked (array t) = found (array t)
invoked (list t) = found (list t)
invoked (dictionary k v) = found (dictionary k v)
invoked texture = missing
invoked texture_2d = found texture_2d
invoked sprite_font = found sprite_font
invoked page = found page
invoked (mesh m) = found (mesh m)

unfoldable pub reader : List Target → ℕ → Found
reader readers zero = missing
reader [] (suc i) = missing
reader (t ∷ readers) (suc zero) = invoked t
reader (t ∷ readers) (suc (suc i)) = reader readers (suc i)

invoked_is : (t u : Target) → invoked t ≡ found u → t ≡ u
unfolding invoked
invoked_is (fixed k) u e = cc
invoked_is char u e = cc
invoked_is string u e = cc
invoked_is object u e = differ cc
invoked_is (enum name z) u e = cc
invoked_is (nullable t) u e = cc
invoked_is (array t) u e = cc
invoked_is (list t) u e = cc
invoked_is (dictionary k v) u e = cc
invoked_is texture u e = differ cc
invoked_is texture_2d u e = cc
invoked_is sprite_font u e = cc
invoked_is page u e = cc
invoked_is (mesh m) u e = cc

pub reader-sound : (readers : List Target) (id : ℕ) (u : Target) → reader readers id ≡ found u → Reader readers id u
unfolding reader Reader
reader-sound readers zero u e = differ cc
reader-sound [] (suc i) u e = differ cc
reader-sound (t ∷ readers) (suc zero) u e = (0, refl, omega arith, invoked_is t u e)
reader-sound (t ∷ readers) (suc (suc i)) u e =
    let r = reader-sound readers (suc i) u e in
    let p : suc i ≡ suc r.0 = r.1 in
    (suc r.0, ap suc p, omega arith, r.3)

at_complete : (readers : List Target) (i : ℕ) (u : Target) → i < length readers → get_or readers i object ≡ u → invoked u ≡ found u → reader readers (suc i) ≡ found u
unfolding reader
at_complete [] i u h e v = absurd (omega arith)
at_complete (t ∷ readers) zero u h e v = rw e v
at_complete (t ∷ readers) (suc i) u h e v = at_complete readers i u (omega arith) e v

pub reader-complete : (readers : List Target) (id : ℕ) (u : Target) → Reader readers id u → invoked u ≡ found u → reader readers id ≡ found u
unfolding Reader
reader-complete readers id u w v = rw w.1 (at_complete readers w.0 u w.2 w.3 v)

-- only a type whose reader is invoked has values
pub head-invoked : (t : Target) (own : List ℕ) (plan : Plan) (bs : List ℕ) → Head t own plan bs → invoked t ≡ found t
unfolding Head invoked
head-invoked (fixed k) own plan bs w = refl
head-invoked char own plan bs w = refl
head-invoked string own plan bs w = refl
head-invoked object own plan bs w = absurd w
head-invoked (enum name z) own plan bs w = refl
head-invoked (nullable t) own plan bs w = refl
head-invoked (array t) own plan bs w = refl
head-invoked (list t) own plan bs w = refl
head-invoked (dictionary k v) own plan bs w = refl
head-invoked texture own plan bs w = absurd w
head-invoked texture_2d own plan bs w = refl
head-invoked sprite_font own plan bs w = refl
head-invoked page own plan bs w = refl
head-invoked (mesh m) own plan bs w = refl

pub null_id : (readers : List Target) (u : Target) → Reader readers 0 u → ⊥
unfolding Reader
null_id readers u w = omega (arith, w.1)

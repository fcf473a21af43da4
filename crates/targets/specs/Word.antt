-- The parts of a code: its kind, its number of arguments and its place. Assumes nothing.
use Rattle.std.specs.Prelude.{◌≡◌, refl, Bool, true, false, cond, ℕ, ◌/◌, ◌%◌, ◌<◌, ◌≤◌, eqb, ltb, get_or}
use Rattle.std.proofs.Common.{inl, inr, arith, ltb-true, ltb-false}
use Rattle.std.proofs.Math.ListN.{get_or-eq_default}
use Rattle.layout.specs.Target.{Mesh, index_buffer, vertex_declaration, vertex_buffer, model, mesh, mesh_kind}
use Rattle.layout.specs.EnumList.{EnumSize}
use Rattle.layout.specs.Fixed.{sizes}
use Rattle.layout.specs.Named.{known, fixed_kind, meshed, plain}
use Rattle.names.specs.Kind.{node, word, enum_kind}

module _ (k n place : ℕ) (small : k < 64) (few : n < 4) where
  pub word-node : word k n place % 256 ≡ node k n
  word-node = omega arith

  pub word_kind : word k n place % 64 ≡ k
  word_kind = omega arith

  pub word-arity : word k n place / 64 % 4 ≡ n
  word-arity = omega arith

  pub word-place : word k n place / 256 ≡ place
  word-place = omega arith

-- the kinds of `fixed` targets have a size, and are below 60
pub sized-small : (k : ℕ) → 0 < get_or sizes k 0 → k < 60
unfolding sizes
sized-small k h = go (ltb k 60) refl where
  go : (b : Bool) → ltb k 60 ≡ b → k < 60
  go true e = ltb-true k 60 e
  go false e = absurd (let z : get_or sizes k 0 ≡ 0 = get_or-eq_default sizes 0 {n = k} (omega (arith, ltb-false k 60 e)) in omega arith)

pub fixed-has-size : (k : ℕ) → fixed_kind k ≡ true → 0 < get_or sizes k 0
unfolding fixed_kind
fixed-has-size k e = ltb-true 0 (get_or sizes k 0) e

pub fixed-small : (k : ℕ) → fixed_kind k ≡ true → k < 60
fixed-small k e = sized-small k (fixed-has-size k e)

-- so are those of mesh types, each of which is the kind of its type
pub mesh-small : (m : Mesh) → mesh_kind m < 60
unfolding mesh_kind
mesh-small index_buffer = omega arith
mesh-small vertex_declaration = omega arith
mesh-small vertex_buffer = omega arith
mesh-small model = omega arith

pub mesh-plain : (m : Mesh) → plain (mesh_kind m) ≡ known (mesh m)
unfolding mesh_kind meshed plain fixed_kind sizes
mesh-plain index_buffer = refl
mesh-plain vertex_declaration = refl
mesh-plain vertex_buffer = refl
mesh-plain model = refl

-- the size of an enum type by the kind of its code
unfoldable pub enum_size : (kind : ℕ) → ℕ
enum_size k = cond (eqb k 60) 1 (cond (eqb k 61) 2 (cond (eqb k 62) 4 8))

-- 02's sizes have the kinds 60 to 63
pub enum_kind_lem : (z : ℕ) → EnumSize z → (60 ≤ enum_kind z) × (enum_kind z < 64) × (enum_size (enum_kind z) ≡ z)
unfolding EnumSize enum_kind enum_size
enum_kind_lem z (inl e) = rw e (omega arith, omega arith, refl)
enum_kind_lem z (inr (inl e)) = rw e (omega arith, omega arith, refl)
enum_kind_lem z (inr (inr (inl e))) = rw e (omega arith, omega arith, refl)
enum_kind_lem z (inr (inr (inr e))) = rw e (omega arith, omega arith, refl)

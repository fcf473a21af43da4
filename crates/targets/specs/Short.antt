-- A name that has a target has at least 11 bytes for each of its codes, so that 64 names of 1,024 bytes have fewer than 6,000 codes. Assumes nothing.
use Rattle.std.specs.Prelude.{◌≡◌, refl, Bool, true, false, ◌&&◌, cond, List, [], ◌∷◌, eqb, leb, length}
use Rattle.std.proofs.Common.{sym, ap, ◌∙◌, arith}
use Prim.Native.Nat.{ℕ, zero, suc, ◌+◌, ◌*◌, ◌≤◌}
use borrow.Author.Tests.{leb-true, eqb-true, eq-eqb}
use Rattle.laws.specs.Small.{differ, both}
use Rattle.laws.specs.Ok.{ok_pick}
use Rattle.layout.specs.Text.{ascii}
use Rattle.layout.specs.Target.{Target, Mesh, index_buffer, vertex_declaration, vertex_buffer, model, mesh_kind}
use Rattle.layout.specs.Name.{Name, simple, one, two, text, Formed, long, long_tail}
use Rattle.layout.specs.Kind.{alike, lookup, reader, readers, target, targets, KindEntry, kind_entry}
use Rattle.layout.specs.EnumList.{EnumEntry, size_in}
use Rattle.layout.specs.Fixed.{sizes}
use Rattle.layout.specs.Named.{Typed, known, fixed_kind, plain, wrapped, paired, listed_enum, type_of, enum_of, array_of, reader_of}
use Rattle.names.specs.Complete.{length-write}
use Rattle.names.specs.Codes.{alike_then, some-head}
use Rattle.targets.specs.Code.{code_size}
use Rattle.targets.specs.Coded.{Ok, none, some, ok_either, ok_plain, ok_wrapped, ok_paired, ok_array}

-- every head of a table has as many bytes as its kind asks for
longs : (ℕ → ℕ) → List KindEntry → Bool
longs need [] = true
longs need (kind_entry h k ∷ es) = leb (need k) (length h) && longs need es

found_long : (need : ℕ → ℕ) (h n : List ℕ) (k other : ℕ) (x : Bool) → alike h n ≡ x → need k ≤ length n → ((other ≡ 0 → ⊥) → need other ≤ length h) → (cond x k other ≡ 0 → ⊥) → need (cond x k other) ≤ length h
found_long need h n k other true e l f z = omega (arith, ap length (alike_then h n e))
found_long need h n k other false e l f z = f z

-- a head that is listed is as long
lookup-long : (need : ℕ → ℕ) (h : List ℕ) (es : List KindEntry) → longs need es ≡ true → (lookup h es ≡ 0 → ⊥) → need (lookup h es) ≤ length h
unfolding lookup longs
lookup-long need h [] e z = absurd (z refl)
lookup-long need h (kind_entry n k ∷ es) e z =
    let q = both (leb (need k) (length n)) (longs need es) e in
    found_long need h n k (lookup h es) (alike h n) refl (leb-true (need k) (length n) q.0) (lookup-long need h es q.1) z

-- a target name has 11 bytes, Dictionary's 12 and more
target_bytes : ℕ → ℕ
target_bytes k = cond (eqb k 19) 12 11

target_bytes_lem : (h : List ℕ) → (lookup h targets ≡ 0 → ⊥) → target_bytes (lookup h targets) ≤ length h
unfolding longs target_bytes targets target ascii
target_bytes_lem h z = lookup-long target_bytes h targets refl z

target-long : (h : List ℕ) → (lookup h targets ≡ 0 → ⊥) → 11 ≤ length h
unfolding target_bytes
target-long h z = go (eqb (lookup h targets) 19) (target_bytes_lem h z) where
  go : (b : Bool) → cond b 12 11 ≤ length h → 11 ≤ length h
  go true e = omega arith
  go false e = e

pair_long : (h : List ℕ) → lookup h targets ≡ 19 → 12 ≤ length h
unfolding target_bytes
pair_long h e = rw (eq-eqb (lookup h targets) 19 e) at (target_bytes_lem h (λ z. omega arith))

reader-long : (h : List ℕ) → (lookup h readers ≡ 0 → ⊥) → 22 ≤ length h
unfolding longs readers reader ascii
reader-long h z = lookup-long (λ k. 22) h readers refl z

-- the codes of a type are few for a name of so many bytes
abbrev Few : (bytes : ℕ) → Target → Type 0
Few n t = 11 * code_size t ≤ n

-- no mesh type has kind 0
mesh-some : (m : Mesh) → mesh_kind m ≡ 0 → ⊥
unfolding mesh_kind
mesh-some index_buffer e = omega arith
mesh-some vertex_declaration e = omega arith
mesh-some vertex_buffer e = omega arith
mesh-some model e = omega arith

plain_few : (k n : ℕ) → ((k ≡ 0 → ⊥) → 11 ≤ n) → Ok (Few n) (plain k)
unfolding fixed_kind sizes code_size
plain_few k n f =
    let g : (m : ℕ) → k ≡ suc m → 11 ≤ n = λ m e. f (λ z. omega arith) in
    ok_plain k (λ b. f (λ z. let y : false ≡ true = ap fixed_kind (sym z) ∙ b in differ cc)) (g 11) (g 12) (g 13) (g 30) (g 31) (g 32) (g 33) (λ m e. f (λ z. mesh-some m (sym e ∙ z)))

wrapped_few : (k m n : ℕ) {r : Typed} → Ok (Few m) r → ((k ≡ 0 → ⊥) → 11 + m ≤ n) → Ok (Few n) (wrapped k r)
unfolding code_size
wrapped_few k m n o f = ok_wrapped k o (λ t e a. omega (arith, f (λ z. omega arith))) (λ t e a. omega (arith, f (λ z. omega arith)))

paired_few : (k m p n : ℕ) {r s : Typed} → Ok (Few m) r → Ok (Few p) s → (k ≡ 19 → 11 + m + p ≤ n) → Ok (Few n) (paired k r s)
unfolding code_size
paired_few k m p n o q f = ok_paired k o q (λ t u e a b. omega (arith, f e))

array_few : (m n : ℕ) {r : Typed} → Ok (Few m) r → 11 + m ≤ n → Ok (Few n) (array_of r)
unfolding code_size
array_few m n o f = ok_array o (λ t a. omega arith)

module _ (es : List EnumEntry) where
  -- an argument has 11 bytes for each code, but for 10: an enum type's name may have one byte
  type_short : (l : ℕ) (n : Name) → Formed l n → Ok (Few (long n + 10)) (type_of es n)
  unfolding Formed type_of listed_enum long code_size
  type_short zero n f = absurd f
  type_short (suc l) (simple h t) f =
      ok_either (eqb (lookup h targets) 0)
      (λ _. ok_either (eqb (size_in es h) 0) (λ _. none) (λ _. some (omega (arith, some-head h f.0))))
      (λ _. plain_few (lookup h targets) (length h + long_tail t + 10) (λ z. omega (arith, target-long h z)))
  type_short (suc l) (one h a t) f = wrapped_few (lookup h targets) (long a + 10) (long (one h a t) + 10) (type_short l a f.1) (λ z. omega (arith, target-long h z))
  type_short (suc l) (two h a b t) f =
      paired_few (lookup h targets) (long a + 10) (long b + 10) (long (two h a b t) + 10) (type_short l a f.1) (type_short l b f.2) (λ e. omega (arith, pair_long h e))

  enum_short : (n : Name) (m : ℕ) → 11 ≤ m → Ok (Few m) (enum_of es n)
  unfolding enum_of code_size
  enum_short (simple h t) m e = ok_pick (eqb (lookup h targets) 0) (λ _. some e) none
  enum_short (one h a t) m e = none
  enum_short (two h a b t) m e = none

  reader_short : (l : ℕ) (n : Name) → Formed l n → Ok (Few (long n)) (reader_of es n)
  unfolding Formed reader_of long
  reader_short zero n f = absurd f
  reader_short (suc l) (simple h t) f = plain_few (lookup h readers) (length h + long_tail t) (λ z. omega (arith, reader-long h z))
  reader_short (suc l) (one h a t) f =
      let k = lookup h readers in
      let o = type_short l a f.1 in
      let n = long (one h a t) in
      ok_pick (eqb k 15) (λ b. enum_short a n (omega (arith, reader-long h (λ z. omega (arith, eqb-true k 15 b)))))
      (ok_pick (eqb k 17) (λ b. array_few (long a + 10) n o (omega (arith, reader-long h (λ z. omega (arith, eqb-true k 17 b)))))
      (wrapped_few k (long a + 10) n o (λ z. omega (arith, reader-long h z))))
  reader_short (suc l) (two h a b t) f =
      paired_few (lookup h readers) (long a + 10) (long b + 10) (long (two h a b t)) (type_short l a f.1) (type_short l b f.2) (λ e. omega (arith, reader-long h (λ z. omega arith)))

  -- a reader's name has at least 11 bytes for each code of its target
  pub codes_are_few : (n : Name) (t : Target) → Formed 8 n → reader_of es n ≡ known t → 11 * code_size t ≤ length (text n)
  codes_are_few n t f e = omega (arith, (reader_short 8 n f).got e, length-write n [])

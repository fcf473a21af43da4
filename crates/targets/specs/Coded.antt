-- The heads' codes of a name that has a target are that target's codes. Assumes nothing.
use Rattle.std.specs.Prelude.{◌≡◌, Bool, ◌&&◌, cond, List, [], ◌∷◌, ◌++◌, eqb, length}
use Rattle.std.proofs.Math.Path.{refl, sym, ap}
use Rattle.std.proofs.Common.{◌∙◌, append-nil, inl, drop-drop}
use Rattle.std.proofs.Math.Bool.{true, false, not}
use Rattle.std.proofs.Math.Logic.{inr}
use Prim.Native.Char.{code}
use Prim.Native.Nat.{ℕ, zero, suc, ◌+◌, ◌*◌, ◌%◌, ◌<◌}
use native.Mathlib.Omega.{arith}
use Rattle.std.proofs.Math.ListN.{drop}
use Rattle.std.proofs.Math.Seq.{take-append_seam, drop-append-add}
use borrow.Author.Tests.{eqb-true, eqb-false, eq-eqb, ne_eqb}
use Rattle.laws.specs.Small.{differ}
use Rattle.laws.specs.Ok as law
use Rattle.laws.specs.Ok.{ok_pick}
use Rattle.layout.specs.Text.{ascii}
use Rattle.layout.specs.Target.{Target, fixed, char, string, object, texture, texture_2d, sprite_font, page, Mesh, index_buffer, vertex_declaration, vertex_buffer, model, mesh, mesh_kind, enum, nullable, array, list, dictionary, kind_of, is_value}
use Rattle.layout.specs.Name.{Tail, Name, simple, one, two, head_byte, write_tail, write, Formed, NameHead, long}
use Rattle.layout.specs.Kind.{lookup, targets, readers}
use Rattle.layout.specs.EnumList.{EnumEntry, EnumSize, size_in}
use Rattle.layout.specs.Named.{Typed, unknown, known, fixed_kind, meshed, plain, nullable_of, wrapped, paired, listed_enum, type_of, size_or_four, enum_of, array_of, reader_of, Lawful}
use Rattle.names.specs.Parse.{span}
use Rattle.names.specs.Complete.{bracket, span_all, tail-opens, further}
use Rattle.names.specs.Heading.{headings}
use Rattle.names.specs.Codes.{codes-append, lookup_is_small}
use Rattle.names.specs.Kind.{codes, listed, word, enum_kind, kind_in}
use Rattle.targets.specs.Code.{head_at, Alone, Before, Coded}
use Rattle.targets.specs.Contract.{enum_word, settled, settled_size}
use Rattle.targets.specs.Word.{word-node, enum_kind_lem}

-- what holds of a target that is known; nothing stands beside it in the answer
abbrev pub Ok : (Target → Type 0) → Typed → Type 0
Ok P r = law.Ok (λ t (_ : Unit {0}). known t) (λ t _. P t) r

pub none : {P : Target → Type 0} → Ok P unknown
none = record { got = λ q. differ cc }

pub some : {P : Target → Type 0} {t : Target} → P t → Ok P (known t)
some {t = t} p = record { got = λ {a} q. let i : t ≡ a = cc in rw i at p }

pub any_type : (r : Typed) → Ok (λ _. Unit {0}) r
any_type unknown = none
any_type (known t) = some tt

-- by the kinds that take no argument
module _ {P : Target → Type 0} (k : ℕ) where
  ok_mesh : ((m : Mesh) → k ≡ mesh_kind m → P (mesh m)) → Ok P (meshed k)
  unfolding meshed mesh_kind
  ok_mesh f =
      ok_pick (eqb k 37) (λ b. some (f index_buffer (eqb-true k 37 b))) (ok_pick (eqb k 38) (λ b. some (f vertex_declaration (eqb-true k 38 b)))
      (ok_pick (eqb k 39) (λ b. some (f vertex_buffer (eqb-true k 39 b))) (ok_pick (eqb k 40) (λ b. some (f model (eqb-true k 40 b))) none)))

  pub ok_plain : (fixed_kind k ≡ true → P (fixed k)) → (k ≡ 12 → P char) → (k ≡ 13 → P string) → (k ≡ 14 → P object) → (k ≡ 31 → P texture) → (k ≡ 32 → P texture_2d)
      → (k ≡ 33 → P sprite_font) → (k ≡ 34 → P page) → ((m : Mesh) → k ≡ mesh_kind m → P (mesh m)) → Ok P (plain k)
  unfolding plain
  ok_plain f c s o t u w p m =
      ok_pick (fixed_kind k) (λ b. some (f b)) (ok_pick (eqb k 12) (λ b. some (c (eqb-true k 12 b))) (ok_pick (eqb k 13) (λ b. some (s (eqb-true k 13 b)))
      (ok_pick (eqb k 14) (λ b. some (o (eqb-true k 14 b))) (ok_pick (eqb k 31) (λ b. some (t (eqb-true k 31 b))) (ok_pick (eqb k 32) (λ b. some (u (eqb-true k 32 b)))
      (ok_pick (eqb k 33) (λ b. some (w (eqb-true k 33 b))) (ok_pick (eqb k 34) (λ b. some (p (eqb-true k 34 b))) (ok_mesh m))))))))

-- by the kinds that take one argument and two, where Q is known of an argument
module _ {P Q : Target → Type 0} (k : ℕ) where
  pub ok_wrapped : {r : Typed} → Ok Q r → ((t : Target) → k ≡ 16 → Q t → P (nullable t)) → ((t : Target) → k ≡ 18 → Q t → P (list t)) → Ok P (wrapped k r)
  unfolding wrapped nullable_of
  ok_wrapped {r = unknown} o f g = none
  ok_wrapped {r = known t} o f g =
      let p = o.got refl in
      ok_pick (eqb k 16) (λ b. ok_pick (is_value t && not (eqb (kind_of t) 16)) (λ _. some (f t (eqb-true k 16 b) p)) none)
      (ok_pick (eqb k 18) (λ b. some (g t (eqb-true k 18 b) p)) none)

  pub ok_paired : {R : Target → Type 0} {r s : Typed} → Ok Q r → Ok R s → ((t u : Target) → k ≡ 19 → Q t → R u → P (dictionary t u)) → Ok P (paired k r s)
  unfolding paired
  ok_paired {r = unknown} o p f = none
  ok_paired {r = known t} {s = unknown} o p f = none
  ok_paired {r = known t} {s = known u} o p f = ok_pick (eqb k 19) (λ b. some (f t u (eqb-true k 19 b) (o.got refl) (p.got refl))) none

-- by a test, with what each outcome says of it
pub ok_either : {P : Target → Type 0} (b : Bool) {x y : Typed} → (b ≡ true → Ok P x) → (b ≡ false → Ok P y) → Ok P (cond b x y)
ok_either true f g = f refl
ok_either false f g = g refl

pub ok_array : {P Q : Target → Type 0} {r : Typed} → Ok Q r → ((t : Target) → Q t → P (array t)) → Ok P (array_of r)
unfolding array_of
ok_array {r = unknown} o f = none
ok_array {r = known t} o f = some (f t (o.got refl))

-- a head that what follows does not go on stands where it was written
pub head-stands : (file : List ℕ) (place : ℕ) (h r : List ℕ) → NameHead h → span head_byte r ≡ 0 → drop place file ≡ h ++ r → head_at file place ≡ h
unfolding head_at
head-stands file place h r w e q = rw (q, span_all head_byte h r w.bytes e, take-append_seam h r)

-- a head that takes arguments has the kind that it names
pub kind_taken : (es : List EnumEntry) (h : List ℕ) (n : ℕ) → kind_in es false h (suc n) ≡ lookup h targets
unfolding kind_in
kind_taken es h n = rw (ne_eqb (suc n) 0 (λ q. omega arith)) (go (eqb (lookup h targets) 0) refl) where
  go : (b : Bool) → eqb (lookup h targets) 0 ≡ b → cond b 0 (lookup h targets) ≡ lookup h targets
  go true e = sym (eqb-true (lookup h targets) 0 e)
  go false e = refl

-- under a list whose sizes are 02's
module _ (file : List ℕ) (es : List EnumEntry) (sized : (h : List ℕ) → (size_in es h ≡ 0 → ⊥) → EnumSize (size_in es h)) where
  -- a type that is lawful and has these codes
  abbrev Is : List ℕ → Target → Type 0
  Is ws t = Lawful t × Coded file t ws

  -- a head with no argument
  plain_coded : (k p : ℕ) → Ok (Is (word k 0 p ∷ [])) (plain k)
  unfolding Lawful Coded Alone
  plain_coded k p =
      ok_plain k (λ b. (b, (p, refl))) (λ e. (tt, (p, rw e))) (λ e. (tt, (p, rw e))) (λ e. (tt, (p, rw e))) (λ e. (tt, (p, rw e))) (λ e. (tt, (p, rw e))) (λ e. (tt, (p, rw e))) (λ e. (tt, (p, rw e))) (λ m e. (tt, (p, rw e)))

  -- a head that is no target's, with no argument: listed
  listed_coded : (h : List ℕ) (p : ℕ) → head_at file p ≡ h → Ok (Is (word (enum_kind (size_in es h)) 0 p ∷ [])) (listed_enum h (size_in es h))
  unfolding listed_enum Lawful Coded
  listed_coded h p e = ok_either (eqb (size_in es h) 0) (λ _. none) (λ b. some (sized h (eqb-false (size_in es h) 0 b), (p, refl, e)))

  wrapped_coded : (k p : ℕ) (us : List ℕ) {r : Typed} → Ok (Is us) r → Ok (Is (word k 1 p ∷ us)) (wrapped k r)
  unfolding Lawful Coded Before
  wrapped_coded k p us o = ok_wrapped k o (λ t e w. (w.0, (p, us, rw e, w.1))) (λ t e w. (w.0, (p, us, rw e, w.1)))

  paired_coded : (k p : ℕ) (us vs : List ℕ) {r r₂ : Typed} → Ok (Is us) r → Ok (Is vs) r₂ → Ok (Is (word k 2 p ∷ (us ++ vs))) (paired k r r₂)
  unfolding Lawful Coded
  paired_coded k p us vs o o₂ = ok_paired k o o₂ (λ t u e w v. ((w.0, v.0), (p, us, vs, rw e, w.1, v.1)))

  -- a name that stands at a place, and the bracket behind it
  abbrev Nested : (at : ℕ) → Name → Type 0
  Nested at n = (r : List ℕ) × (drop at file ≡ write n (code "]" ∷ r))

  -- where the arguments stand
  only_stands : (at : ℕ) (h : List ℕ) (a : Name) (t : Tail) (rest : List ℕ) → drop at file ≡ write (one h a t) rest → Nested (at + (length h + 4)) a
  unfolding write ascii
  only_stands at h a t rest e =
      let r₂ = ascii "]]" ++ write_tail t rest in
      (ascii "]" ++ write_tail t rest, sym (drop-drop (length h + 4) at file) ∙ ap (drop (length h + 4)) e ∙ drop-append-add h (ascii "`1[[" ++ write a r₂) 4)

  module _ (at : ℕ) (h : List ℕ) (a b : Name) (t : Tail) (rest : List ℕ) (e : drop at file ≡ write (two h a b t) rest) where
    opens : drop (at + (length h + 4)) file ≡ write a (ascii "],[" ++ write b (ascii "]]" ++ write_tail t rest))
    unfolding write ascii
    opens = sym (drop-drop (length h + 4) at file) ∙ ap (drop (length h + 4)) e ∙ drop-append-add h (ascii "`2[[" ++ write a (ascii "],[" ++ write b (ascii "]]" ++ write_tail t rest))) 4

    first_stands : Nested (at + (length h + 4)) a
    unfolding ascii
    first_stands = (ascii ",[" ++ write b (ascii "]]" ++ write_tail t rest), opens)

    second_stands : Nested (at + (length h + 4 + long a + 3)) b
    unfolding ascii
    second_stands =
        let q = further file (at + (length h + 4)) a (ascii "],[" ++ write b (ascii "]]" ++ write_tail t rest)) opens in
        let z : at + (length h + 4) + long a + 3 ≡ at + (length h + 4 + long a + 3) = omega arith in
        (ascii "]" ++ write_tail t rest, ap (λ (k : ℕ). drop k file) (sym z) ∙ sym (drop-drop 3 (at + (length h + 4) + long a) file) ∙ ap (drop 3) q)

  -- the type of an argument
  pub type_coded : (l at : ℕ) (n : Name) → Formed l n → Nested at n → Ok (Is (codes es false (headings at n))) (type_of es n)
  unfolding Formed headings codes kind_in type_of write
  type_coded zero at n f s = absurd f
  type_coded (suc l) at (simple h t) f s =
      ok_either (eqb (lookup h targets) 0)
      (λ b. rw b (listed_coded h at (head-stands file at h (write_tail t (code "]" ∷ s.0)) f.0 (tail-opens t (bracket {r = s.0})).0 s.1)))
      (λ b. rw b (plain_coded (lookup h targets) at))
  type_coded (suc l) at (one h a t) f s =
      let p = at + (length h + 4) in
      rw (kind_taken es h 0) (wrapped_coded (lookup h targets) at (codes es false (headings p a)) (type_coded l p a f.1 (only_stands at h a t (code "]" ∷ s.0) s.1)))
  type_coded (suc l) at (two h a b t) f s =
      let p = at + (length h + 4) in
      let q = at + (length h + 4 + long a + 3) in
      rw (kind_taken es h 1, codes-append es (headings p a) (headings q b))
      (paired_coded (lookup h targets) at (codes es false (headings p a)) (codes es false (headings q b)) (type_coded l p a f.1 (first_stands at h a b t (code "]" ∷ s.0) s.1)) (type_coded l q b f.2 (second_stands at h a b t (code "]" ∷ s.0) s.1)))

-- the codes that are left begin with the target's
pub record Leaves (file cs : List ℕ) (t : Target) : Type 0 where
  pub words : List ℕ
  pub more : List ℕ
  pub parts : settled cs ≡ words ++ more
  pub sized : length words ≡ settled_size cs
  pub lawful : Lawful t
  pub coded : Coded file t words

settled-alone : (w : ℕ) (us : List ℕ) → (w % 256 ≡ 79 → ⊥) → settled (w ∷ us) ≡ w ∷ us
unfolding settled
settled-alone w [] e = refl
settled-alone w (v ∷ us) e = rw (ne_eqb (w % 256) 79 e)

size-alone : (w : ℕ) (us : List ℕ) → (w % 256 ≡ 79 → ⊥) → length (w ∷ us) ≡ settled_size (w ∷ us)
unfolding settled_size
size-alone w [] e = refl
size-alone w (v ∷ us) e = rw (ne_eqb (w % 256) 79 e) (let z : suc (suc (length us)) ≡ 2 + length us = omega arith in z)

module _ (file : List ℕ) (es : List EnumEntry) (sized : (h : List ℕ) → (size_in es h ≡ 0 → ⊥) → EnumSize (size_in es h)) where
  -- a reader that is no enum's: its own codes are left
  as_they_are : {w : ℕ} {us : List ℕ} → (w % 256 ≡ 79 → ⊥) → (t : Target) → Lawful t × Coded file t (w ∷ us) → Leaves file (w ∷ us) t
  as_they_are {w} {us} e t i = record { words = w ∷ us; more = []; parts = settled-alone w us e ∙ sym (append-nil (w ∷ us)); sized = size-alone w us e; lawful = i.0; coded = i.1 }

  -- the argument of an enum's reader, which is listed or not
  enum_word_lem : (z p : ℕ) (b : Bool) → eqb z 0 ≡ b → (b ≡ false → EnumSize z) → (enum_word (word (enum_kind z) 0 p) ≡ word (enum_kind (cond b 4 z)) 0 p) × EnumSize (cond b 4 z)
  unfolding enum_word EnumSize enum_kind
  enum_word_lem z p true e f =
      let y : z ≡ 0 = eqb-true z 0 e in
      let m : word 0 0 p % 256 ≡ 0 = omega arith in
      let a : word 0 0 p + 62 ≡ word 62 0 p = omega arith in
      (rw (y, eq-eqb (word 0 0 p % 256) 0 m, a), inr (inr (inl refl)))
  enum_word_lem z p false e f = (go (f refl), f refl) where
    go : EnumSize z → enum_word (word (enum_kind z) 0 p) ≡ word (enum_kind z) 0 p
    go s =
        let k = enum_kind_lem z s in
        let m : word (enum_kind z) 0 p % 256 ≡ 0 → ⊥ = λ q. omega (arith, word-node (enum_kind z) 0 p k.1 (omega arith), k.0) in
        rw (ne_eqb (word (enum_kind z) 0 p % 256) 0 m)

  enum_left : (w p : ℕ) (h : List ℕ) → w % 256 ≡ 79 → head_at file p ≡ h → Leaves file (w ∷ word (enum_kind (size_in es h)) 0 p ∷ []) (enum h (size_or_four (size_in es h)))
  unfolding settled settled_size size_or_four Lawful Coded
  enum_left w p h e s =
      let z = size_in es h in
      let g = enum_word_lem z p (eqb z 0) refl (λ b. sized h (eqb-false z 0 b)) in
      record {
        words = word (enum_kind (cond (eqb z 0) 4 z)) 0 p ∷ [];
        more = word (enum_kind z) 0 p ∷ [];
        parts = rw (eq-eqb (w % 256) 79 e, g.0);
        sized = rw (eq-eqb (w % 256) 79 e);
        lawful = g.1;
        coded = (p, refl, s);
      }

  enum_coded : (w : ℕ) → w % 256 ≡ 79 → (l at : ℕ) (n : Name) → Formed l n → Nested file es sized at n → Ok (Leaves file (w ∷ codes es false (headings at n))) (enum_of es n)
  unfolding Formed headings codes kind_in enum_of write
  enum_coded w e zero at n f s = absurd f
  enum_coded w e (suc l) at (simple h t) f s =
      ok_pick (eqb (lookup h targets) 0)
      (λ b. some (rw b (enum_left w at h e (head-stands file at h (write_tail t (code "]" ∷ s.0)) f.0 (tail-opens t (bracket {r = s.0})).0 s.1))))
      none
  enum_coded w e (suc l) at (one h a t) f s = none
  enum_coded w e (suc l) at (two h a b t) f s = none

  -- by what is known of the codes
  kept_left : {w : ℕ} {us : List ℕ} {r : Typed} → (w % 256 ≡ 79 → ⊥) → Ok (λ t. Lawful t × Coded file t (w ∷ us)) r → Ok (Leaves file (w ∷ us)) r
  kept_left e o = record { got = λ {a} {b} q. as_they_are e a (o.got q) }

  module _ (at : ℕ) (h : List ℕ) where
    -- the reader's own code has its kind and its number of arguments
    other : (n : ℕ) → n < 4 → ((lookup h readers + 64 * n ≡ 79) → ⊥) → word (lookup h readers) n at % 256 ≡ 79 → ⊥
    unfolding listed
    other n b f q = f (sym (word-node (lookup h readers) n at (lookup_is_small true h) b) ∙ q)

    only_coded : (k : ℕ) → k ≡ lookup h readers → (a : Name) (p l : ℕ) → Formed l a → Nested file es sized p a
        → Ok (Leaves file (word k 1 at ∷ codes es false (headings p a))) (cond (eqb k 15) (enum_of es a) (cond (eqb k 17) (array_of (type_of es a)) (wrapped k (type_of es a))))
    unfolding Lawful Coded Before
    only_coded k i a p l f s =
        let us = codes es false (headings p a) in
        let o = type_coded file es sized l p a f s in
        ok_either (eqb k 15)
        (λ b. enum_coded (word k 1 at) (rw (eqb-true k 15 b) (word-node 15 1 at (omega arith) (omega arith))) l p a f s)
        (λ b. kept_left (rw i (other 1 (omega arith) (λ q. eqb-false k 15 b (omega arith))))
        (ok_pick (eqb k 17) (λ c. ok_array o (λ t w. (w.0, (at, us, rw (eqb-true k 17 c), w.1)))) (wrapped_coded file es sized k at us o)))

  -- the target of a reader whose name stands in the file
  pub reader-coded : (l at : ℕ) (n : Name) (rest : List ℕ) → Formed l n → drop at file ≡ write n rest → Ok (Leaves file (codes es true (headings at n))) (reader_of es n)
  unfolding Formed headings codes kind_in listed reader_of
  reader-coded zero at n rest f s = absurd f
  reader-coded (suc l) at (simple h t) rest f s = kept_left (other at h 0 (omega arith) (λ q. omega (arith, lookup_is_small true h))) (plain_coded file es sized (lookup h readers) at)
  reader-coded (suc l) at (one h a t) rest f s = only_coded at h (lookup h readers) refl a (at + (length h + 4)) l f.1 (only_stands file es sized at h a t rest s)
  reader-coded (suc l) at (two h a b t) rest f s =
      let p = at + (length h + 4) in
      let q = at + (length h + 4 + long a + 3) in
      rw (codes-append es (headings p a) (headings q b))
      (kept_left (other at h 2 (omega arith) (λ q. omega arith))
      (paired_coded file es sized (lookup h readers) at (codes es false (headings p a)) (codes es false (headings q b)) (type_coded file es sized l p a f.1 (first_stands file es sized at h a b t rest s)) (type_coded file es sized l q b f.2 (second_stands file es sized at h a b t rest s))))

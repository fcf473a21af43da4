-- What the codes say of the types that stand in them. Assumes nothing.
use Rattle.std.specs.Prelude.{◌≡◌, Bool, ◌&&◌, cond, ℕ, suc, ◌+◌, ◌-◌, ◌%◌, ◌≤◌, leb, take, drop, set}
use Rattle.std.proofs.Math.Path.{refl, sym, ap}
use Rattle.std.proofs.Common.{◌∙◌, inl, inr, drop-drop, get_or-drop, length-take-le}
use Rattle.std.proofs.Math.Bool.{true, false}
use mathlib.Core.List.{List, [], ◌∷◌, ◌++◌, append_assoc}
use native.Mathlib.Omega.{arith}
use Rattle.std.proofs.Math.Dec.{eqb}
use Rattle.std.proofs.Math.ListN.{length, get_or}
use Rattle.std.proofs.Math.Seq.{drop-append_seam}
use Rattle.std.proofs.lemmas.List.{drop-set-add}
use Rattle.std.proofs.lemmas.List.Edits.{sets, sets-eq}
use borrow.Author.Tests.{eqb-true, le-leb, lt-leb}
use Rattle.laws.specs.Small.{differ, both}
use Rattle.layout.specs.Target.{Target, fixed, char, string, object, texture, texture_2d, sprite_font, page, mesh, mesh_kind, enum, nullable, array, list, dictionary, kind_of, Serves, same, any, picture}
use Rattle.layout.specs.Fixed.{sizes}
use Rattle.layout.specs.EnumList.{EnumSize}
use Rattle.layout.specs.Named.{unknown, known, fixed_kind, meshed, plain, Lawful}
use Rattle.names.specs.Kind.{enum_kind}
use Rattle.targets.specs.Code.{Before, Coded, code_kind, code_size, Stands}
use Rattle.targets.specs.Place.{kind_at, extent, place_after, equal_at, fits_at}
use Rattle.targets.specs.Word.{fixed-small, mesh-small, mesh-plain, enum_kind_lem}
use Rattle.targets.specs.Contract.{settled}
use Rattle.targets.specs.Coded.{Leaves}
use Rattle.targets.specs.Decode.{alike_types, coded_same}
use Rattle.targets.specs.Extent.{starts_same, starts_first, first_starts, code-extent, code_agree, code_kind_lem, code_size_lem}

-- a type at a place: its kind, and the place after it
module _ {file c : List ℕ} {a : ℕ} {t : Target} (s : Stands file c a t) where
  pub kind_is : kind_at c a ≡ code_kind t
  unfolding kind_at
  kind_is =
      let z : a + 0 ≡ a = omega arith in
      ap (λ (x : ℕ). x % 64) (ap (λ (x : ℕ). get_or c x 0) (sym z) ∙ sym (get_or-drop a c 0 0) ∙ ap (λ (l : List ℕ). get_or l 0 0) s.there) ∙ code_kind_lem file t s.words s.rest s.lawful s.coded

  pub size_is : length s.words ≡ code_size t
  size_is = code_size_lem file t s.words s.coded

  pub after_is : place_after c a ≡ a + code_size t
  unfolding place_after
  after_is = ap (λ (k : ℕ). a + k) (ap (λ (l : List ℕ). extent l 1) s.there ∙ code-extent file t s.words s.rest s.lawful s.coded ∙ size_is)

pub one_further : (c : List ℕ) (a : ℕ) {b : ℕ} {l : List ℕ} → drop a c ≡ b ∷ l → drop (a + 1) c ≡ l
one_further c a e = sym (drop-drop 1 a c) ∙ ap (drop 1) e

-- the only argument of a type stands at the next place, and so does the first of two; the second stands after the first
argument : (k : ℕ) (file c : List ℕ) (a : ℕ) (t : Target) (ws rest : List ℕ) → Lawful t → drop a c ≡ ws ++ rest → Before k (λ us. Coded file t us) ws → Stands file c (a + 1) t
unfolding Before
argument k file c a t ws rest l d (p, us, e, w) = record { lawful = l; words = us; rest = rest; coded = w; there = one_further c a (d ∙ ap (λ (s : List ℕ). s ++ rest) e) }

module _ {file c : List ℕ} {a : ℕ} {t : Target} where
  pub nullable-argument : Stands file c a (nullable t) → Stands file c (a + 1) t
  unfolding Lawful Coded
  nullable-argument s = argument 16 file c a t s.words s.rest s.lawful s.there s.coded

  pub array-argument : Stands file c a (array t) → Stands file c (a + 1) t
  unfolding Lawful Coded
  array-argument s = argument 17 file c a t s.words s.rest s.lawful s.there s.coded

  pub list-argument : Stands file c a (list t) → Stands file c (a + 1) t
  unfolding Lawful Coded
  list-argument s = argument 18 file c a t s.words s.rest s.lawful s.there s.coded

  unfoldable pub dictionary-key : {u : Target} → Stands file c a (dictionary t u) → Stands file c (a + 1) t
  unfolding Lawful Coded
  dictionary-key s =
      let w = s.coded in
      record {
        lawful = s.lawful.0;
        words = w.1;
        rest = w.2 ++ s.rest;
        coded = w.4;
        there = one_further c a (s.there ∙ ap (λ (l : List ℕ). l ++ s.rest) w.3) ∙ append_assoc w.1 w.2 s.rest;
      }

  pub dictionary-value : {u : Target} → Stands file c a (dictionary t u) → Stands file c (place_after c (a + 1)) u
  unfolding Lawful Coded dictionary-key
  dictionary-value s =
      let w = s.coded in
      let k = dictionary-key s in
      let e : place_after c (a + 1) ≡ a + 1 + length w.1 = after_is k ∙ ap (λ (n : ℕ). a + 1 + n) (sym (size_is k)) in
      record {
        lawful = s.lawful.1;
        words = w.2;
        rest = s.rest;
        coded = w.5;
        there = rw e (sym (drop-drop (length w.1) (a + 1) c) ∙ ap (drop (length w.1)) k.there ∙ drop-append_seam w.1 (w.2 ++ s.rest));
      }

-- 01: "Targets are equal when heads and arguments are": at two places, the test says exactly whether the types are equal
module _ {file c : List ℕ} {a b : ℕ} {d t : Target} (p : Stands file c a d) (q : Stands file c b t) where
  tested : equal_at file c a b ≡ starts_same file p.words (q.words ++ q.rest)
  unfolding equal_at
  tested = rw (p.there, q.there) (code_agree file d p.words p.rest p.lawful p.coded (q.words ++ q.rest))

  pub equal_then : equal_at file c a b ≡ true → d ≡ t
  equal_then e =
      let f = starts_first file p.words (q.words ++ q.rest) (sym tested ∙ e) in
      alike_types file d t p.words q.words f.first f.rest q.rest p.lawful q.lawful p.coded q.coded f.same f.parts

module _ {file c : List ℕ} {a b : ℕ} {t : Target} (p : Stands file c a t) (q : Stands file c b t) where
  pub then_equal : equal_at file c a b ≡ true
  then_equal = tested p q ∙ first_starts file p.words q.words q.rest (coded_same file t p.words q.words p.lawful p.coded q.coded)

-- no enum's code has a kind of 01 that takes no argument
enum_other : (z : ℕ) (t : Target) → EnumSize z → plain (enum_kind z) ≡ known t → ⊥
unfolding EnumSize enum_kind meshed plain fixed_kind sizes
enum_other z t (inl e) q = let h : unknown ≡ known t = rw e at q in differ cc
enum_other z t (inr (inl e)) q = let h : unknown ≡ known t = rw e at q in differ cc
enum_other z t (inr (inr (inl e))) q = let h : unknown ≡ known t = rw e at q in differ cc
enum_other z t (inr (inr (inr e))) q = let h : unknown ≡ known t = rw e at q in differ cc

-- a lawful type whose kind takes no argument is the type of that kind
kind_type : (d t : Target) → Lawful d → plain (code_kind d) ≡ known t → d ≡ t
unfolding Lawful meshed plain code_kind fixed_kind sizes
kind_type (fixed k) t w e = let h : known (fixed k) ≡ known t = rw w at e in cc
kind_type char t w e = cc
kind_type string t w e = cc
kind_type object t w e = cc
kind_type (enum name z) t w e = absurd (enum_other z t w e)
kind_type (nullable u) t w e = differ cc
kind_type (array u) t w e = differ cc
kind_type (list u) t w e = differ cc
kind_type (dictionary k v) t w e = differ cc
kind_type texture t w e = cc
kind_type texture_2d t w e = cc
kind_type sprite_font t w e = cc
kind_type page t w e = cc
kind_type (mesh m) t w e = let h : known (mesh m) ≡ known t = sym (mesh-plain m) ∙ e in cc

pub of_kind : (d t : Target) (k : ℕ) → Lawful d → code_kind d ≡ k → plain k ≡ known t → d ≡ t
of_kind d t k w e q = kind_type d t w (ap plain e ∙ q)

-- 01's kind of a type by the kind of its code: every enum's is 15
pub kind_of-code : (t : Target) → Lawful t → kind_of t ≡ cond (leb 60 (code_kind t)) 15 (code_kind t)
unfolding Lawful kind_of code_kind
kind_of-code (fixed k) w = rw (lt-leb 60 k (fixed-small k w))
kind_of-code char w = refl
kind_of-code string w = refl
kind_of-code object w = refl
kind_of-code (enum name z) w = rw (le-leb 60 (enum_kind z) (enum_kind_lem z w).0)
kind_of-code (nullable t) w = refl
kind_of-code (array t) w = refl
kind_of-code (list t) w = refl
kind_of-code (dictionary k v) w = refl
kind_of-code texture w = refl
kind_of-code texture_2d w = refl
kind_of-code sprite_font w = refl
kind_of-code page w = refl
kind_of-code (mesh m) w = rw (lt-leb 60 (mesh_kind m) (mesh-small m))

last_true : (a b : Bool) → cond a true (cond b true true) ≡ true
last_true true b = refl
last_true false true = refl
last_true false false = refl

-- at two places, the first of a declared type: the test says exactly what 01 says of declared types (`Serves`)
module _ {file c : List ℕ} {a b : ℕ} {d t : Target} (p : Stands file c a d) (q : Stands file c b t) where
  serves : (x y : Bool) → eqb (kind_at c a) 14 ≡ x → (eqb (kind_at c a) 31 && eqb (kind_at c b) 32) ≡ y → cond x true (cond y true (equal_at file c a b)) ≡ true → Serves d t
  unfolding plain fixed_kind sizes
  serves true y ex ey e =
      let z : d ≡ object = of_kind d object 14 p.lawful (sym (kind_is p) ∙ eqb-true (kind_at c a) 14 ex) refl in
      rw z any
  serves false true ex ey e =
      let g = both (eqb (kind_at c a) 31) (eqb (kind_at c b) 32) ey in
      let z : d ≡ texture = of_kind d texture 31 p.lawful (sym (kind_is p) ∙ eqb-true (kind_at c a) 31 g.0) refl in
      let y : t ≡ texture_2d = of_kind t texture_2d 32 q.lawful (sym (kind_is q) ∙ eqb-true (kind_at c b) 32 g.1) refl in
      rw (z, y) picture
  serves false false ex ey e = rw (equal_then p q e) same

  pub fits_then : fits_at file c a b ≡ true → Serves d t
  unfolding fits_at
  fits_then e = serves (eqb (kind_at c a) 14) (eqb (kind_at c a) 31 && eqb (kind_at c b) 32) refl refl e

module _ {file c : List ℕ} {a b : ℕ} where
  pub then_fits : {d t : Target} → Stands file c a d → Stands file c b t → Serves d t → fits_at file c a b ≡ true
  unfolding fits_at code_kind
  then_fits p q same = rw (then_equal p q) (last_true (eqb (kind_at c a) 14) (eqb (kind_at c a) 31 && eqb (kind_at c b) 32))
  then_fits p q any = rw (kind_is p)
  then_fits p q picture = rw (kind_is p, kind_is q)

-- the codes of a target that are written at a place stand there
pub written_stands : (file c : List ℕ) (place : ℕ) (cs : List ℕ) (t : Target) → Leaves file cs t → place + length (settled cs) ≤ length c → Stands file (sets c place (settled cs)) place t
written_stands file c a cs t w h =
    let ws = settled cs in
    let l : length (take a c) ≡ a = length-take-le a c (omega arith) in
    let r = drop (a + length ws) c in
    let e : sets c a ws ≡ take a c ++ (ws ++ r) = sets-eq ws c a h ∙ append_assoc (take a c) ws r in
    record {
      lawful = w.lawful;
      words = w.words;
      rest = w.more ++ r;
      coded = w.coded;
      there = ap (drop a) e ∙ ap (λ (k : ℕ). drop k (take a c ++ (ws ++ r))) (sym l) ∙ drop-append_seam (take a c) (ws ++ r) ∙ ap (λ (l : List ℕ). l ++ r) w.parts ∙ append_assoc w.words w.more r;
    }

set_right : (xs ys : List ℕ) (j x : ℕ) → set (xs ++ ys) (length xs + j) x ≡ xs ++ set ys j x
set_right [] ys j x = let z : 0 + j ≡ j = omega arith in rw z
set_right (b ∷ xs) ys j x =
    let z : suc (length xs) + j ≡ suc (length xs + j) = omega arith in
    rw z (ap (λ (l : List ℕ). b ∷ l) (set_right xs ys j x))

one_kept : (file c : List ℕ) (a p x : ℕ) {t : Target} → Stands file c a t → a + code_size t ≤ p → Stands file (set c p x) a t
one_kept file c a p x {t} s h =
    let n = length s.words in
    let i = p - (a + n) in
    let z : p ≡ a + (n + i) = omega (arith, size_is s) in
    record {
      lawful = s.lawful;
      words = s.words;
      rest = set s.rest i x;
      coded = s.coded;
      there = ap (λ (k : ℕ). drop a (set c k x)) z ∙ drop-set-add a c (n + i) x ∙ ap (λ (l : List ℕ). set l (n + i) x) s.there ∙ set_right s.words s.rest i x;
    }

-- codes that are written further on leave a type where it stands
pub kept-stands : (file c : List ℕ) (a place : ℕ) (ws : List ℕ) {t : Target} → Stands file c a t → a + code_size t ≤ place → Stands file (sets c place ws) a t
kept-stands file c a p [] s h = s
kept-stands file c a p (x ∷ ws) s h = kept-stands file (set c p x) a (suc p) ws (one_kept file c a p x s h) (omega arith)

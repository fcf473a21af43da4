-- What reading a name means: the names that are read are exactly those that keep 01's rules, each from its own text. Assumes nothing.
use Rattle.std.specs.Prelude.{◌≡◌, refl, Bool, true, false, cond, List, [], ℕ, ◌+◌, eqb, length}
use Rattle.std.proofs.Common.{ap, ◌∙◌, arith, eq-eqb, eqb-true}
use Rattle.std.proofs.Math.Seq.{drop-length}
use Rattle.laws.specs.Small.{differ}
use Rattle.layout.specs.Name.{Name, write, text, Formed, long}
use Rattle.names.specs.Parse.{Read, broken, name, wrong, name_in, whole, name_of}
use Rattle.names.specs.Complete.{length-write, complete, end}
use Rattle.names.specs.Sound.{Ok, not_read, is_read, NameStands, sound}
use Rattle.names.specs.Heading.{Heading, headings}

-- the text of a lawful name is read as that name
pub text-is_read : (at : ℕ) (n : Name) → Formed 8 n → name_of at (text n) ≡ name n (length (text n))
unfolding name_of whole
text-is_read at n f =
    let z : long n ≡ length (text n) = omega (arith, length-write n []) in
    rw (complete 8 at n f end, z, eq-eqb (length (text n)) (length (text n)) refl)

abbrev Whole : List ℕ → Name → ℕ → Type 0
Whole s n k = Formed 8 n × (s ≡ text n) × (k ≡ length s)

whole-sound : (at : ℕ) (s : List ℕ) (n : Name) (k : ℕ) → NameStands 8 s n k → (b : Bool) → eqb k (length s) ≡ b → Ok (Whole s) (cond b (name n k) (broken (wrong n) (at + k) (headings at n)))
whole-sound at s n k p true b =
    let z : k ≡ length s = eqb-true k (length s) b in
    is_read (p.0, p.1 ∙ ap (write n) (rw z (drop-length s)), z)
whole-sound at s n k p false b = not_read

read-sound : (at : ℕ) (s : List ℕ) (r : Read) → Ok (NameStands 8 s) r → Ok (Whole s) (whole at s r)
unfolding whole
read-sound at s (broken m p hs) o = not_read
read-sound at s (name n k) o = whole-sound at s n k (o.got refl) (eqb k (length s)) refl

-- bytes that are read as a name are the text of that name, which is lawful
pub read_is_text : (at : ℕ) (s : List ℕ) (n : Name) (k : ℕ) → name_of at s ≡ name n k → Formed 8 n × (s ≡ text n) × (k ≡ length s)
unfolding name_of
read_is_text at s n k e = (read-sound at s (name_in 8 at s) (sound 8 at s)).got e

-- bytes that are not read are the text of no lawful name
pub broken_is_no_text : (at : ℕ) (s : List ℕ) (number place : ℕ) (hs : List Heading) → name_of at s ≡ broken number place hs → (n : Name) → Formed 8 n → s ≡ text n → ⊥
broken_is_no_text at s number place hs e n f q =
    let p : name_of at s ≡ name n (length (text n)) = ap (name_of at) q ∙ text-is_read at n f in
    differ cc

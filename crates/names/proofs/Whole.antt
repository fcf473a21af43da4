-- What `read_name` returns. Assumes nothing.
use mathlib.Core.Path.{◌≡◌, refl, sym, ap, ◌∙◌}
use mathlib.Core.Bool.{Bool, true, false, ◌&&◌}
use mathlib.Core.List.{List}
use Prim.Native.Nat.{ℕ, ◌+◌, ◌<◌, ◌≤◌}
use native.Mathlib.Omega.{arith}
use lib.Dec.{leb}
use lib.ListN.{length, drop}
use lib.Seq.{sets}
use borrow.Author.Tests.{lt-leb, le-leb, eq-eqb, ne_eqb}
use Rattle.laws.specs.Small.{differ}
use Rattle.layout.specs.EnumList.{EnumEntry}
use Rattle.std.specs.Prelude.{Ok as Result-ok, Err}
use Rattle.answers.specs.declared.Refusal.{Refusal}
use Rattle.answers.specs.Refusals.{refusal, number_of}
use Rattle.names.specs.declared.parse.Parsed.{Parsed}
use Rattle.names.specs.declared.parse.Unnamed.TheVariants.{Broken, NoRoom}
use Rattle.names.specs.Parse.{Read, broken, name, wrong, name_in, whole, name_of}
use Rattle.names.specs.Complete.{length-write}
use Rattle.names.specs.Sound.{Ok, NameStands, sound}
use Rattle.names.specs.Contract.{rule_of, parsed, answer, met, Parses, placed, ending, answer_of, content_of, ReadsName}
use Rattle.names.proofs.Steps.{wrong_number}
use Rattle.names.specs.Kind.{codes}
use Rattle.names.specs.Heading.{headings}

module _ {es : List EnumEntry} {s : List ℕ} {at : ℕ} {c : List ℕ} {used : ℕ} where
  not_placed : placed s at used ≡ false → ReadsName es s at c c used (Err NoRoom)
  unfolding answer_of content_of
  not_placed b = record { answers = rw b; writes = rw b }

  pub many_used : 16777216 < used → ReadsName es s at c c used (Err NoRoom)
  unfolding placed
  many_used h = not_placed (rw (lt-leb used 16777216 h))

  pub too_far : 16777216 < at + length s → ReadsName es s at c c used (Err NoRoom)
  unfolding placed
  too_far h = not_placed (rw (lt-leb (at + length s) 16777216 h) (go (leb used 16777216))) where
    go : (b : Bool) → (b && false) ≡ false
    go true = refl
    go false = refl

module _ (es : List EnumEntry) (s : List ℕ) (at : ℕ) (c c' : List ℕ) (used : ℕ) (u : used ≤ 16777216) (h : at + length s ≤ 16777216) where
  is_placed : placed s at used ≡ true
  unfolding placed
  is_placed = rw (le-leb used 16777216 u, le-leb (at + length s) 16777216 h)

  -- by what stands first in s
  broken_as : (x : Refusal) (r : Read) → name_in 8 at s ≡ r → Err x ≡ answer at used r → c' ≡ sets c used (codes es true (met at r)) → ReadsName es s at c c' used (Err (Broken x))
  unfolding answer_of content_of name_of whole
  broken_as x (broken f g hs) i a w =
      let y : x ≡ refusal f g = cc in
      record { answers = rw (is_placed, i, y); writes = w ∙ rw (is_placed, i) }
  broken_as x (name n j) i a w = differ cc

  module _ (f : Parsed) where
    named_as : (r : Read) → name_in 8 at s ≡ r → Result-ok f ≡ answer at used r → c' ≡ sets c used (codes es true (met at r))
        → (f.end ≡ length s → f.used ≤ length c → ReadsName es s at c c' used (Result-ok f.used)) × (f.end ≡ length s → length c < f.used → ReadsName es s at c c' used (Err NoRoom))
        × ((f.end ≡ length s → ⊥) → ReadsName es s at c c' used (Err (Broken (refusal (number_of f.wrong) (at + f.end)))))
    unfolding answer_of content_of name_of whole ending
    named_as (broken m p hs) i a w = differ cc
    named_as (name n j) i a w =
        let whole : f ≡ parsed (rule_of n) j (used + length (headings at n)) = cc in
        let p : f.end ≡ j = ap (λ (x : Parsed). x.end) whole in
        let y : number_of f.wrong ≡ wrong n = ap (λ (x : Parsed). number_of x.wrong) whole ∙ wrong_number n in
        let d : f.used ≡ used + length (headings at n) = ap (λ (x : Parsed). x.used) whole in (
          (λ e l. let q = eq-eqb j (length s) (sym p ∙ e) in record { answers = rw (is_placed, i, q, ← d, le-leb f.used (length c) l); writes = w ∙ rw (is_placed, i, q) }),
          (λ e l. let q = eq-eqb j (length s) (sym p ∙ e) in record { answers = rw (is_placed, i, q, ← d, lt-leb f.used (length c) l); writes = w ∙ rw (is_placed, i, q) }),
          (λ g. let q = ne_eqb j (length s) (λ e. g (p ∙ e)) in record { answers = rw (is_placed, i, q, y, p); writes = w ∙ rw (is_placed, i, q) }),
        )

  fits_as : (f : Parsed) (r : Read) → Ok (NameStands 8 s) r → Result-ok f ≡ answer at used r → f.end ≤ length s
  fits_as f (broken m p hs) o a = differ cc
  fits_as f (name n j) o a =
      let g = o.got refl in
      let whole : f ≡ parsed (rule_of n) j (used + length (headings at n)) = cc in
      omega (arith, ap (λ (x : Parsed). x.end) whole, g.2, ap length g.1, length-write n (drop j s))

  pub broken_is : {x : Refusal} → Parses es true 8 at s c c' used (Err x) → ReadsName es s at c c' used (Err (Broken x))
  broken_is {x} p = broken_as x (name_in 8 at s) refl p.answers p.writes

  module _ {f : Parsed} (p : Parses es true 8 at s c c' used (Result-ok f)) where
    pub end_fits : f.end ≤ length s
    end_fits = fits_as f (name_in 8 at s) (sound 8 at s) p.answers

    pub more_is : (f.end ≡ length s → ⊥) → ReadsName es s at c c' used (Err (Broken (refusal (number_of f.wrong) (at + f.end))))
    more_is g = (named_as f (name_in 8 at s) refl p.answers p.writes).2 g

    pub full_is : f.end ≡ length s → length c < f.used → ReadsName es s at c c' used (Err NoRoom)
    full_is g l = (named_as f (name_in 8 at s) refl p.answers p.writes).1 g l

    pub named_is : f.end ≡ length s → f.used ≤ length c → ReadsName es s at c c' used (Result-ok f.used)
    named_is g l = (named_as f (name_in 8 at s) refl p.answers p.writes).0 g l

-- The text of an item, character by character. Assumes nothing.
use mathlib.Core.Path.{◌≡◌, refl, sym, ap, ◌∙◌}
use mathlib.Core.List.{List, [], ◌∷◌, ◌++◌, append-nil, append_assoc}
use Prim.Native.Nat.{ℕ, ◌+◌, ◌-◌, ◌≤◌, ◌<◌, max}
use native.Mathlib.Omega.{arith}
use lib.ListN.{length, drop, length-append, length-drop, drop_of_length-le}
use lib.Seq.{length-take-le}
use Rattle.layout.specs.Text.{ascii}
use Rattle.names.specs.Parse.{common}
use Rattle.xml_layout.specs.Xml.{item_end}
use Rattle.xml_reading.specs.Match.{fails, takes, literal, mapped, or_else, until}
use Rattle.xml_reading.specs.Ranges.{ranges, any_of}
use Rattle.xml_reading.specs.Text as T
use Rattle.xml_reading.specs.Text.{entity, joined, character-matches, character-some}
use Rattle.xml_reading.specs.Plain.{plain_character, plain-matches}
use Rattle.xml_reading.specs.Steps.{Going, going, goes_on, goes-wrong, goes_out}
use Rattle.std.specs.Prelude.{Ok, Err}
use Rattle.xml_import.specs.declared.character.Entity.{Entity}
use Rattle.xml_import.specs.Places.{FailsAt, TakesAt, part, EntityAt, TextAt, texted, character}
use Rattle.xml_import.proofs.Literals.{literal-takes, literal-fails, literal-inside}

joined-more : (us : List (List ℕ)) (t : List ℕ) → joined (us ++ t ∷ []) ≡ joined us ++ t
unfolding joined
joined-more [] t = append-nil t
joined-more (u ∷ us) t = ap (λ (l : List ℕ). u ++ l) (joined-more us t) ∙ sym (append_assoc u (joined us) t)

-- the text from `at` on is taken up to i, and has so many bytes so far
pub record Reading (xml : List ℕ) (at i size : ℕ) : Type 0 where
  pub us : List (List ℕ)
  pub goes : Going character item_end xml at i us
  pub sized : size ≡ length (joined us)
  pub bound : size + at ≤ i

pub start : {xml : List ℕ} {at : ℕ} → at ≤ length xml → Reading xml at at 0
unfolding joined
start {xml} {at} h = record { us = []; goes = going character item_end xml at h; sized = refl; bound = omega arith }

pub nothing_left : character [] ≡ fails 0
unfolding T.character entity mapped or_else literal plain_character any_of ranges ascii
nothing_left = refl

no_literal : literal item_end [] ≡ fails 0
unfolding item_end literal ascii
no_literal = refl

module _ {xml : List ℕ} {at i size : ℕ} (r : Reading xml at i size) where
  -- at the item's end
  pub ends : {n : ℕ} → n ≡ common item_end (drop i xml) → n ≡ 7 → TextAt xml at (texted size (i + 7))
  unfolding TextAt T.text mapped item_end ascii
  ends {n} e k =
      let t : literal item_end (drop i xml) ≡ takes tt (drop (i + 7) xml) = rw k at (literal-takes item_end xml i e k) in
      let u : until character item_end (drop at xml) ≡ takes r.us (drop (i + 7) xml) = goes_out (character-matches plain-matches) character-some r.goes t in
      (joined r.us, r.sized, (rw u, omega (arith, r.goes.start), omega (arith, literal-inside item_end xml i e r.goes.inside)), omega (arith, r.bound, r.goes.start))

  pub end-inside : {n : ℕ} → n ≡ common item_end (drop i xml) → i + n ≤ length xml
  end-inside e = literal-inside item_end xml i e r.goes.inside

  module _ {n : ℕ} (e : n ≡ common item_end (drop i xml)) (k : n ≡ 7 → ⊥) where
    not_ended : literal item_end (drop i xml) ≡ fails n
    unfolding item_end ascii
    not_ended = literal-fails item_end xml i e k

    -- where no character stands
    pub wrong : {place p : ℕ} → FailsAt (character (drop i xml)) i place → p ≡ max (i + n) place → TextAt xml at (Err p)
    unfolding TextAt T.text mapped
    wrong {place} {p} f z =
        let u : until character item_end (drop at xml) ≡ fails (i - at + max n f.0) = goes-wrong (character-matches plain-matches) character-some r.goes not_ended f.1 in
        (i - at + max n f.0, rw u, z ∙ ap (max (i + n)) f.2 ∙ omega (arith, r.goes.start))

    -- behind a character that takes so many bytes
    module _ {t : List ℕ} {next : ℕ} (w : TakesAt (character (drop i xml)) t xml i next) (l : length t ≤ next - i) where
      pub more : {size' : ℕ} → size' ≡ size + length t → Reading xml at next size'
      more {size'} q = record {
        us = r.us ++ t ∷ [];
        goes = goes_on (character-matches plain-matches) character-some r.goes not_ended w.0 w.1 w.2;
        sized = q ∙ omega (arith, r.sized, ap length (joined-more r.us t), length-append (joined r.us) t);
        bound = omega (arith, r.bound, q, l, w.1);
      }

    pub entity_on : (e : Entity) → EntityAt xml i (Ok e) → Reading xml at e.next (size + 1) × (i < e.next) × (e.next ≤ length xml)
    unfolding EntityAt
    entity_on e w = (more w (omega (arith, w.1)) (omega arith), w.1, w.2)

    pub plain_on : {next : ℕ} → TakesAt (character (drop i xml)) (part xml i next) xml i next → Reading xml at next (size + (next - i)) × (i < next) × (next ≤ length xml)
    plain_on {next} w =
        let l : length (part xml i next) ≡ next - i = length-take-le (next - i) (drop i xml) (omega (arith, length-drop i xml, w.2)) in
        (more w (omega (arith, l)) (omega (arith, l)), w.1, w.2)

  -- at the end of the XML
  pub stops : length xml ≤ i → TextAt xml at (Err i)
  unfolding TextAt T.text mapped
  stops h =
      let d : drop i xml ≡ [] = drop_of_length-le xml h in
      let u : until character item_end (drop at xml) ≡ fails (i - at + max 0 0)
      = goes-wrong (character-matches plain-matches) character-some r.goes (ap (literal item_end) d ∙ no_literal) (ap character d ∙ nothing_left) in
      (i - at + max 0 0, rw u, omega (arith, r.goes.start))

-- A text whose item has no more bytes than it and the item's end stands as it is. Assumes nothing.
use mathlib.Core.Path.{◌≡◌, refl, sym, ap, subst, ◌∙◌}
use mathlib.Core.List.{List, [], ◌∷◌, ◌++◌, append_assoc}
use mathlib.Core.Logic.{inl, inr}
use Prim.Native.Nat.{ℕ, ◌+◌, ◌-◌, ◌≤◌}
use native.Mathlib.Omega.{arith}
use lib.ListN.{length, take, drop, length-append, length-drop}
use lib.Seq.{take-append_seam}
use Rattle.layout.specs.Text.{ascii}
use Rattle.xml_layout.specs.Xml.{item_end}
use Rattle.xml_escape.specs.Wrote.{Wrote, wrote-copy}
use Rattle.fill.specs.Fill.{copied}
use Rattle.xml_reading.specs.Match.{takes, until}
use Rattle.xml_reading.specs.Text.{Character, joined, character-matches, character-some}
use Rattle.xml_reading.specs.Plain.{plain-matches}
use Rattle.xml_reading.specs.Steps.{first_taken}
use Rattle.xml_import.specs.Places.{character}
use Rattle.xml_import.specs.Puts.{Ready, Verbatim, TextPut}
use Rattle.xml_import.proofs.Writing.{text-joined}
use Rattle.xml_import.proofs.Runs.{ended_here, told-character}

-- an entity has more bytes than its character
no_shorter : (t form : List ℕ) → Character t form → (length t ≤ length form) × (length form ≡ length t → form ≡ t)
unfolding ascii
no_shorter t form (inl f) = let a = ap length f.0 in let b = ap length f.1 in (omega arith, λ e. absurd (omega arith))
no_shorter t form (inr (inl f)) = let a = ap length f.0 in let b = ap length f.1 in (omega arith, λ e. absurd (omega arith))
no_shorter t form (inr (inr (inl f))) = let a = ap length f.0 in let b = ap length f.1 in (omega arith, λ e. absurd (omega arith))
no_shorter t form (inr (inr (inr (inl f)))) = let a = ap length f.0 in let b = ap length f.1 in (omega arith, λ e. absurd (omega arith))
no_shorter t form (inr (inr (inr (inr f)))) = let b = ap length f.parts in (omega arith, λ e. f.parts)

end-long : length item_end ≡ 7
unfolding item_end ascii
end-long = refl

pub whole : (us : List (List ℕ)) (l rest : List ℕ) → until character item_end l ≡ takes us rest
    → (length (joined us) + 7 + length rest ≤ length l) × (length l ≡ length (joined us) + 7 + length rest → l ≡ joined us ++ (item_end ++ rest))
unfolding joined
whole [] l rest e =
    let d = ended_here item_end (character-matches plain-matches) character-some l rest e in
    (omega (arith, ap length d, length-append item_end rest, end-long), λ n. d)
whole (t ∷ us) l rest e =
    let w = first_taken item_end (character-matches plain-matches) character-some l t us rest e in
    let c = told-character l t w.0 w.1 in
    let k = no_shorter t c.0 c.1 in
    let v = whole us w.0 rest w.2 in
    let a : length l ≡ length c.0 + length w.0 = ap length c.2 ∙ length-append c.0 w.0 in
    let b : length (t ++ joined us) ≡ length t + length (joined us) = length-append t (joined us) in (
      omega (arith, k.0, v.0),
      λ n.
          let f : c.0 ≡ t = k.1 (omega (arith, k.0, v.0)) in
          let g : w.0 ≡ joined us ++ (item_end ++ rest) = v.1 (omega (arith, k.0, v.0)) in
          c.2 ∙ ap (λ (x : List ℕ). x ++ w.0) f ∙ ap (λ (x : List ℕ). t ++ x) g ∙ sym (append_assoc t (joined us) (item_end ++ rest)),
    )

pub whole-text : {xml : List ℕ} {at size next : ℕ} (r : Ready xml at size) → r.rest ≡ drop next xml → at ≤ next → next ≤ length xml → next - at ≡ size + 7 → Verbatim xml at size
whole-text {xml} {at} {size} {next} r e g h n =
    let v = whole r.us (drop at xml) r.rest r.takes_them in
    let d : drop at xml ≡ joined r.us ++ (item_end ++ r.rest) = v.1 (omega (arith, length-drop at xml, ap length e, length-drop next xml, r.sized)) in
    let t : take size (drop at xml) ≡ joined r.us
    = ap (take size) d ∙ ap (λ (k : ℕ). take k (joined r.us ++ (item_end ++ r.rest))) r.sized ∙ take-append_seam (joined r.us) (item_end ++ r.rest) in
    (omega arith, t ∙ sym (text-joined r))

pub whole-put : (xml out : List ℕ) (at to size : ℕ) {out' : List ℕ} → Verbatim xml at size → out' ≡ copied out to xml at size → TextPut xml at to size out out'
unfolding TextPut
whole-put xml out at to size {out'} v c base done w h =
    subst (λ (t : List ℕ). Wrote base (done ++ t) out' (to + size)) v.1 (wrote-copy w xml at size h v.0 c)

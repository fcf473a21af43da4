-- Texts that were taken before: what stands next in them. Assumes nothing.
use mathlib.Core.Path.{◌≡◌, refl, sym, ap, ◌∙◌}
use mathlib.Core.Bool.{Bool, true, false}
use mathlib.Core.List.{List, [], ◌∷◌, ◌++◌}
use mathlib.Core.Logic.{◌⊎◌, inl, inr}
use Prim.Native.Nat.{ℕ, ◌+◌, ◌-◌, ◌≤◌, ◌<◌}
use native.Mathlib.Omega.{arith}
use native.Mathlib.Decide.{dec_lt}
use lib.Dec.{eqb}
use lib.ListN.{length, drop, get_or}
use lib.Seq.{get_or-drop}
use borrow.Author.Tests.{eqb-true, eqb-false}
use Rattle.layout.specs.Text.{ascii}
use Rattle.names.specs.Parse.{common}
use Rattle.xml_layout.specs.Xml.{item_end}
use Rattle.xml_reading.specs.Match.{fails, takes, literal, until}
use Rattle.xml_reading.specs.Text.{Character, character-matches, character-some, character_first}
use Rattle.xml_reading.specs.Plain.{plain-matches}
use Rattle.xml_reading.specs.Steps.{first_taken}
use Rattle.std.specs.Prelude.{Ok, Err}
use Rattle.xml_import.specs.declared.character.Entity.{Entity}
use Rattle.xml_import.specs.Places.{EntityAt, TextAt, texted, Known, Runs, Unmarked, Marked, Stops, character}
use Rattle.xml_import.proofs.Literals.{literal-fails}
use Rattle.xml_import.proofs.Marks.{not_both}
use Rattle.xml_import.proofs.Texts.{Reading, ends, end-inside, wrong, entity_on}
use Rattle.xml_import.proofs.Writing.{Putting, next_character, before_end}
use Rattle.xml_import.proofs.Runs.{no_end, not_ended, told-character, known_on, run_on, opened, runs_by}

-- ---- The next character

record NextOf (xml : List ℕ) (i : ℕ) : Type 0 where
  t : List ℕ
  form : List ℕ
  more : List ℕ
  takes_it : character (drop i xml) ≡ takes t more
  is : Character t form
  stands : drop i xml ≡ form ++ more

next_of : (xml : List ℕ) (i : ℕ) (t more : List ℕ) → character (drop i xml) ≡ takes t more → NextOf xml i
next_of xml i t more e = let c = told-character (drop i xml) t more e in record { t = t; form = c.0; more = more; takes_it = e; is = c.1; stands = c.2 }

next_known : (xml : List ℕ) (i : ℕ) {n : ℕ} → Known xml i → literal item_end (drop i xml) ≡ fails n → NextOf xml i
next_known xml i k f = go k.0 k.2 where
  go : (us : List (List ℕ)) → until character item_end (drop i xml) ≡ takes us k.1 → NextOf xml i
  go [] e = absurd (not_ended (drop i xml) f k.1 e)
  go (t ∷ others) e =
      let w = first_taken item_end (character-matches plain-matches) character-some (drop i xml) t others k.1 e in
      next_of xml i t w.0 w.1

first_is : (xml : List ℕ) (i : ℕ) (l : List ℕ) → drop i xml ≡ l → get_or l 0 0 ≡ get_or xml i 0
first_is xml i l e = let z : i + 0 ≡ i = omega arith in ap (λ (k : List ℕ). get_or k 0 0) (sym e) ∙ rw z at (get_or-drop i xml 0 0)

-- no character starts with `<`
not_less : (xml : List ℕ) (i : ℕ) → NextOf xml i → get_or xml i 0 ≡ 0x3C → ⊥
not_less xml i v b = character_first v.t v.form v.more v.is (first_is xml i (v.form ++ v.more) v.stands ∙ b)

-- where `<` stands, the item ends
known_end : (xml : List ℕ) (i : ℕ) → Known xml i → get_or xml i 0 ≡ 0x3C → 7 ≡ common item_end (drop i xml)
unfolding item_end ascii
known_end xml i k b = go (eqb (common item_end (drop i xml)) 7) refl where
  go : (t : Bool) → eqb (common item_end (drop i xml)) 7 ≡ t → 7 ≡ common item_end (drop i xml)
  go true e = sym (eqb-true (common item_end (drop i xml)) 7 e)
  go false e =
      let f : literal item_end (drop i xml) ≡ fails (common item_end (drop i xml)) = literal-fails item_end xml i refl (eqb-false (common item_end (drop i xml)) 7 e) in
      absurd (not_less xml i (next_known xml i k f) b)

-- an item does not end at `&`
none-ends : (xml : List ℕ) (i : ℕ) → i < length xml → get_or xml i 0 ≡ 0x26 → 0 ≡ common item_end (drop i xml)
none-ends xml i h b = sym (no_end xml i h (λ q. omega (arith, b, q)))

none-fails : (xml : List ℕ) (i : ℕ) → i < length xml → get_or xml i 0 ≡ 0x26 → literal item_end (drop i xml) ≡ fails 0
unfolding item_end ascii
none-fails xml i h b = literal-fails item_end xml i (none-ends xml i h b) (λ q. omega arith)

-- ---- A run

run_of : {xml : List ℕ} {i run : ℕ} → Stops xml i run → Runs xml i run
unfolding Marked
run_of {xml} {i} {run} s = runs_by s.passed (λ h. go (s.marked h)) where
  go : (get_or xml run 0 ≡ 0x26) ⊎ (get_or xml run 0 ≡ 0x3C) → (get_or xml run 0 < 0x80) ⊎ (0xC0 ≤ get_or xml run 0)
  go (inl e) = inl (omega arith)
  go (inr e) = inl (omega arith)

goes_on : {xml : List ℕ} {i run : ℕ} → Stops xml i run → i < length xml → Unmarked (get_or xml i 0) → i < run
goes_on {xml} {i} {run} s h u = go (dec_lt i run) where
  go : Dec (i < run) → i < run
  go (yes l) = l
  go (no l) = let z : run ≡ i = omega (arith, s.passed.forward) in absurd (not_both (get_or xml i 0) u (rw z at (s.marked (omega arith))))

-- ---- A text is judged

module _ {xml : List ℕ} {at i size : ℕ} (r : Reading xml at i size) (h : i < length xml) (b : get_or xml i 0 ≡ 0x26) where
  pub amp_wrong : (place : ℕ) → EntityAt xml i (Err place) → TextAt xml at (Err place)
  unfolding EntityAt
  amp_wrong place f = wrong r (none-ends xml i h b) (λ z. omega arith) f (omega (arith, f.2))

  pub amp_entity : (e : Entity) → EntityAt xml i (Ok e) → Reading xml at e.next (size + 1) × (i < e.next) × (e.next ≤ length xml)
  amp_entity e p = entity_on r (none-ends xml i h b) (λ z. omega arith) e p

-- ---- A text is measured

-- up to the first byte that is marked
pub known_start : {xml : List ℕ} {at run : ℕ} → at ≤ length xml → Known xml at → Stops xml at run → Reading xml at run (run - at)
known_start h k s = opened h ((run_of s).stands k)

module _ {xml : List ℕ} {at i size : ℕ} (r : Reading xml at i size) (k : Known xml at) (h : i < length xml) where
  pub known_ends : get_or xml i 0 ≡ 0x3C → TextAt xml at (texted size (i + 7)) × (i + 7 ≤ length xml)
  known_ends b = let e = known_end xml i (known_on r k) b in (ends r e refl, end-inside r e)

  pub known_run : {run : ℕ} → (get_or xml i 0 ≡ 0x26 → ⊥) → (get_or xml i 0 ≡ 0x3C → ⊥) → Stops xml i run → Reading xml at run (size + (run - i)) × (i < run)
  known_run n m s = (run_on r ((run_of s).stands (known_on r k)), goes_on s h (record { no_and = n; no_less = m }))

-- ---- A text is put

module _ {xml out₀ : List ℕ} {at to size : ℕ} {out : List ℕ} {i j : ℕ} (p : Putting xml out₀ at to size out i j) (h : j < to + size) where
  pub put_run : {run : ℕ} → (get_or xml i 0 ≡ 0x26 → ⊥) → Stops xml i run → Runs xml i run × (i < run)
  put_run n s =
      let c = next_character p h in
      let m : get_or xml i 0 ≡ 0x3C → ⊥ = not_less xml i (next_of xml i c.t c.more c.first) in
      (run_of s, goes_on s (before_end p h) (record { no_and = n; no_less = m }))

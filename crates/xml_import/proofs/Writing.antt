-- Bytes put one after the other into an output. Assumes nothing.
use mathlib.Core.Path.{◌≡◌, refl, sym, ap, subst, ◌∙◌}
use mathlib.Core.Bool.{Bool, true, false}
use mathlib.Core.List.{List, [], ◌∷◌, ◌++◌, append-nil, append_assoc}
use Prim.Native.Nat.{ℕ, ◌+◌, ◌≤◌, ◌<◌}
use native.Mathlib.Omega.{arith}
use lib.Dec.{leb}
use lib.ListN.{length, drop, length-append, drop_of_length-le}
use borrow.Author.Tests.{leb-true, leb-false}
use Rattle.laws.specs.Small.{differ}
use Rattle.xml_layout.specs.Xml.{item_end}
use Rattle.xml_reading.specs.Match.{Match, fails, takes, Told, failed, taken as Taken-of, mapped, until}
use Rattle.xml_reading.specs.Text as T
use Rattle.xml_reading.specs.Text.{joined, character-matches, character-some, character-text}
use Rattle.xml_reading.specs.Plain.{plain-matches}
use Rattle.xml_reading.specs.Steps.{first_taken}
use Rattle.xml_escape.specs.Wrote.{Wrote}
use Rattle.std.specs.Prelude.{Ok, Err}
use Rattle.xml_import.specs.declared.character.Entity.{Entity}
use Rattle.xml_import.specs.Places.{TakesAt, EntityAt, character}
use Rattle.xml_import.specs.Puts.{taken, text_in, Ready, TextPut}
use Rattle.xml_import.proofs.Texts.{nothing_left}

-- ---- The text of an item

pub text-joined : {xml : List ℕ} {at size : ℕ} (r : Ready xml at size) → text_in xml at ≡ joined r.us
unfolding taken T.text mapped
text-joined r = rw r.takes_them

-- a character that is taken has a byte of text
some_bytes : (l t more : List ℕ) → character l ≡ takes t more → 1 ≤ length t
some_bytes l t more e = go (character l) ((character-matches plain-matches).tells l) e where
  go : (o : Match (List ℕ)) → Told T.Character l o → o ≡ takes t more → 1 ≤ length t
  go o (failed g) q = differ cc
  go o (Taken-of {a = a} form f p) q = let z : a ≡ t = cc in omega (arith, ap length z, character-text a form f)

-- the text is put up to j, and what is left of it stands in the XML from i on
pub record Putting (xml out₀ : List ℕ) (at to size : ℕ) (out : List ℕ) (i j : ℕ) : Type 0 where
  pub ready : Ready xml at size
  pub inside_xml : i ≤ length xml
  pub pre : List ℕ
  pub left : List (List ℕ)
  pub text_is : text_in xml at ≡ pre ++ joined left
  pub forms : until character item_end (drop i xml) ≡ takes left ready.rest
  pub place : j ≡ to + length pre
  pub same_size : length out ≡ length out₀
  pub wrote : (base done : List ℕ) → Wrote base done out₀ to → to + size ≤ length base → Wrote base (done ++ pre) out j

pub start : {xml out₀ : List ℕ} {at to size : ℕ} → Ready xml at size → Putting xml out₀ at to size out₀ at to
start r = record {
  ready = r;
  inside_xml = r.inside;
  pre = [];
  left = r.us;
  text_is = text-joined r;
  forms = r.takes_them;
  place = omega arith;
  same_size = refl;
  wrote = λ base done w h. rw (append-nil done) w;
}

module _ {xml out₀ : List ℕ} {at to size : ℕ} {out : List ℕ} {i j : ℕ} (p : Putting xml out₀ at to size out i j) where
  pub size_is : size ≡ length p.pre + length (joined p.left)
  size_is = p.ready.sized ∙ ap length (sym (text-joined p.ready) ∙ p.text_is) ∙ length-append p.pre (joined p.left)

  -- a character that is next
  pub record Next : Type 0 where
    pub t : List ℕ
    pub others : List (List ℕ)
    pub more : List ℕ
    pub is : p.left ≡ t ∷ others
    pub first : character (drop i xml) ≡ takes t more
    pub then_them : until character item_end more ≡ takes others p.ready.rest

  pub next_character : j < to + size → Next
  unfolding joined
  next_character h = go p.left refl where
    go : (left : List (List ℕ)) → p.left ≡ left → Next
    go [] e = absurd (omega (arith, size_is, ap (λ (l : List (List ℕ)). length (joined l)) e, p.place))
    go (t ∷ others) e =
        let f = first_taken item_end (character-matches plain-matches) character-some (drop i xml) t others p.ready.rest (p.forms ∙ ap (λ (l : List (List ℕ)). takes l p.ready.rest) e) in
        record { t = t; others = others; more = f.0; is = e; first = f.1; then_them = f.2 }

  pub before_end : j < to + size → i < length xml
  before_end h = go (leb (length xml) i) refl where
    go : (b : Bool) → leb (length xml) i ≡ b → i < length xml
    go true q =
        let l : length xml ≤ i = leb-true (length xml) i q in
        let n = next_character h in
        let z : fails 0 ≡ takes n.t n.more = sym (ap character (drop_of_length-le xml l) ∙ nothing_left) ∙ n.first in
        differ cc
    go false q = omega (arith, leb-false (length xml) i q)

  pub no_failure : j < to + size → (place : ℕ) → EntityAt xml i (Err place) → ⊥
  unfolding EntityAt
  no_failure h place f =
      let n = next_character h in
      let z : fails f.0 ≡ takes n.t n.more = sym f.1 ∙ n.first in
      differ cc

  pub record Turned (t : List ℕ) (n next : ℕ) : Type 0 where
    pub later : i < next
    pub inside_next : next ≤ length xml
    pub some : 1 ≤ n
    pub fits : j + n ≤ to + size
    pub turns : {out' : List ℕ} → length out' ≡ length out → ((base done : List ℕ) → Wrote base done out j → j + n ≤ length base → Wrote base (done ++ t) out' (j + n))
        → Putting xml out₀ at to size out' next (j + n)

  pub turned : j < to + size → (t : List ℕ) (k next : ℕ) → k ≡ length t → TakesAt (character (drop i xml)) t xml i next → Turned t k next
  unfolding joined
  turned h t many next q k =
      let n = next_character h in
      let z : takes n.t n.more ≡ takes t (drop next xml) = sym n.first ∙ k.0 in
      let a : n.t ≡ t = cc in
      let b : n.more ≡ drop next xml = cc in
      let l : joined p.left ≡ t ++ joined n.others = ap joined n.is ∙ ap (λ (s : List ℕ). s ++ joined n.others) a in
      let m : length (joined p.left) ≡ length t + length (joined n.others) = ap length l ∙ length-append t (joined n.others) in
      let room : j + many ≤ to + size = omega (arith, size_is, p.place) in
      let one : 1 ≤ length t = some_bytes (drop i xml) t (drop next xml) k.0 in
      record {
        later = k.1;
        inside_next = k.2;
        some = omega arith;
        fits = room;
        turns = λ {out'} s f. record {
          ready = p.ready;
          inside_xml = k.2;
          pre = p.pre ++ t;
          left = n.others;
          text_is = p.text_is ∙ ap (λ (q : List ℕ). p.pre ++ q) l ∙ sym (append_assoc p.pre t (joined n.others));
          forms = ap (until character item_end) (sym b) ∙ n.then_them;
          place = omega (arith, p.place, length-append p.pre t);
          same_size = s ∙ p.same_size;
          wrote = λ base done w g. subst (λ (l : List ℕ). Wrote base l out' (j + many)) (append_assoc done p.pre t) (f base (done ++ p.pre) (p.wrote base done w g) (omega arith));
        };
      }

  pub entity-turn : j < to + size → (e : Entity) → EntityAt xml i (Ok e) → Turned (e.byte ∷ []) 1 e.next
  unfolding EntityAt
  entity-turn h e k = turned h (e.byte ∷ []) 1 e.next refl k

  -- all is put
  pub ended : to + size ≤ j → TextPut xml at to size out₀ out
  unfolding TextPut joined
  ended h base done w g = go p.left refl where
    go : (left : List (List ℕ)) → p.left ≡ left → Wrote base (done ++ text_in xml at) out (to + size)
    go [] e =
        let t : text_in xml at ≡ p.pre = p.text_is ∙ ap (λ (l : List (List ℕ)). p.pre ++ joined l) e ∙ append-nil p.pre in
        let n : j ≡ to + size = omega (arith, p.place, size_is, ap (λ (l : List (List ℕ)). length (joined l)) e) in
        rw (t, ← n) (p.wrote base done w g)
    go (t ∷ others) e =
        let f = first_taken item_end (character-matches plain-matches) character-some (drop i xml) t others p.ready.rest (p.forms ∙ ap (λ (l : List (List ℕ)). takes l p.ready.rest) e) in
        absurd (omega (arith, p.place, size_is, ap (λ (l : List (List ℕ)). length (joined l)) e, length-append t (joined others), some_bytes (drop i xml) t f.0 f.1))

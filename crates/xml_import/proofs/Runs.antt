-- Runs of characters that stand as they are. Assumes nothing.
use mathlib.Core.Path.{◌≡◌, refl, sym, ap, subst, ◌∙◌}
use mathlib.Core.List.{List, [], ◌∷◌, ◌++◌, append-nil, append_assoc}
use mathlib.Core.Logic.{◌⊎◌, inl, inr}
use Prim.Native.Nat.{ℕ, zero, suc, ◌+◌, ◌-◌, ◌≤◌, ◌<◌}
use native.Mathlib.Omega.{arith}
use native.Mathlib.Decide.{dec_le}
use lib.ListN.{length, take, drop, get_or, length-append, length-drop, take-append-drop, get_or-append}
use lib.Seq.{length-take-le, take-append-add, get_or-drop}
use borrow.Author.Tests.{ne_eqb}
use Rattle.laws.specs.Small.{differ}
use Rattle.layout.specs.Text.{ascii, Utf8, one, two, three, four, Utf8s, end, then}
use Rattle.names.specs.Parse.{common}
use Rattle.reading.specs.Reads.{seam}
use Rattle.xml_layout.specs.Xml.{item_end}
use Rattle.xml_escape.specs.Quiet.{Quiet, AllQuiet, Ran}
use Rattle.xml_escape.specs.Wrote.{Wrote, Put}
use Rattle.xml_reading.specs.Match.{Match, fails, takes, Told, failed, taken as Taken-of, Matches, Is, literal, literal-matches, shifted, before, one_of, until}
use Rattle.xml_reading.specs.Text as T
use Rattle.xml_reading.specs.Text.{Plain, Character, joined, character-matches, character-some}
use Rattle.xml_reading.specs.Plain.{plain-matches}
use Rattle.xml_reading.specs.Steps.{resumed, until-step, first_taken}
use Rattle.xml_import.specs.Places.{TakesAt, part, Chars, CharsStand, Known, Runs, Unmarked, AllUnmarked, Passed, character}
use Rattle.xml_escape.specs.Runs.{cons_at}
use Rattle.xml_import.proofs.Literals.{literal-fails}
use Rattle.xml_import.proofs.Texts.{Reading, start, more}
use Rattle.xml_import.proofs.Writing.{Putting, size_is}

-- ---- Quiet bytes are characters that stand as they are

-- bytes that are such characters, one after the other
record Standing (l : List ℕ) : Type 0 where
  chars : List (List ℕ)
  plain : Chars chars
  are : l ≡ joined chars

standing-none : Standing []
unfolding Chars joined
standing-none = record { chars = []; plain = tt; are = refl }

standing-more : {t l : List ℕ} → Plain t t → Standing l → Standing (t ++ l)
unfolding Chars joined
standing-more {t} {l} p s = record { chars = t ∷ s.chars; plain = (p, s.plain); are = ap (λ (k : List ℕ). t ++ k) s.are }

unfoldable Quiets : (most : ℕ) → List ℕ → Type 0
Quiets most [] = Unit {0}
Quiets most (b ∷ l) = Quiet most b × Quiets most l

quiets_of : {most : ℕ} (s : List ℕ) (n : ℕ) → AllQuiet most s 0 n → n ≤ length s → Quiets most (take n s)
unfolding Quiets
quiets_of s zero q h = tt
quiets_of [] (suc n) q h = tt
quiets_of {most} (b ∷ s) (suc n) q h =
    (q 0 (omega arith), quiets_of s n (λ k l. let z : 0 + suc k ≡ suc (0 + k) = omega arith in subst (λ (j : ℕ). Quiet most (get_or (b ∷ s) j 0)) z (q (suc k) (omega arith))) (omega arith))

quiets_at : {most : ℕ} (s : List ℕ) (i n : ℕ) → AllQuiet most s i n → i + n ≤ length s → Quiets most (take n (drop i s))
quiets_at {most} s i n q h =
    quiets_of (drop i s) n (λ k l. let z : get_or (drop i s) (0 + k) 0 ≡ get_or s (i + (0 + k)) 0 = get_or-drop i s (0 + k) 0 in let y : i + (0 + k) ≡ i + k = omega arith in rw (z, y) (q k l)) (omega (arith, length-drop i s))

quiets_apart : (most : ℕ) (a b : List ℕ) → Quiets most (a ++ b) → Quiets most a × Quiets most b
unfolding Quiets
quiets_apart most [] b q = (tt, q)
quiets_apart most (x ∷ a) b q = let v = quiets_apart most a b q.1 in ((q.0, v.0), v.1)

not_special : {most b : ℕ} → Quiet most b → T.Special b → ⊥
unfolding T.Special
not_special q (inl e) = q.no_and e
not_special q (inr (inl e)) = q.no_less e
not_special q (inr (inr (inl e))) = q.no_more e
not_special q (inr (inr (inr e))) = q.no_quote e

above : {c : ℕ} → 0x80 ≤ c → T.Special c → ⊥
unfolding T.Special
above h (inl e) = omega arith
above h (inr (inl e)) = omega arith
above h (inr (inr (inl e))) = omega arith
above h (inr (inr (inr e))) = omega arith

quiet_char : (most : ℕ) {c : ℕ} {t : List ℕ} → Utf8 c t → Quiets most t → Plain t t
unfolding Quiets
quiet_char most {c} (one h) q = record {
  code = c;
  utf8 = one h;
  written = record { printing = q.0.printing; not_fffe = λ e. omega arith; not_ffff = λ e. omega arith };
  not_special = not_special q.0;
  parts = refl;
}
quiet_char most {c} (two g h) q = record {
  code = c;
  utf8 = two g h;
  written = record { printing = omega arith; not_fffe = λ e. omega arith; not_ffff = λ e. omega arith };
  not_special = above g;
  parts = refl;
}
quiet_char most {c} (three g h s) q = record {
  code = c;
  utf8 = three g h s;
  written = record { printing = omega arith; not_fffe = λ e. q.0.no_top (omega arith); not_ffff = λ e. q.0.no_top (omega arith) };
  not_special = above (omega arith);
  parts = refl;
}
quiet_char most {c} (four g h) q = record {
  code = c;
  utf8 = four g h;
  written = record { printing = omega arith; not_fffe = λ e. omega arith; not_ffff = λ e. omega arith };
  not_special = above (omega arith);
  parts = refl;
}

-- ASCII
ascii-standing : (l : List ℕ) → Quiets 0x7F l → Standing l
unfolding Quiets
ascii-standing [] q = standing-none
ascii-standing (b ∷ l) q = standing-more (quiet_char 0x7F (one (omega (arith, q.0.low))) (q.0, tt)) (ascii-standing l q.1)

-- any UTF-8
utf8_standing : (most : ℕ) {l : List ℕ} → Utf8s l → Quiets most l → Standing l
utf8_standing most end q = standing-none
utf8_standing most (then {bs = bs} {rest = rest} u r) q = let v = quiets_apart most bs rest q in standing-more (quiet_char most u v.0) (utf8_standing most r v.1)

pub stands-none : {xml : List ℕ} {from : ℕ} → from ≤ length xml → CharsStand xml from from
unfolding Chars joined
stands-none {xml} {from} h = let z : from - from ≡ 0 = omega arith in record { forward = omega arith; inside = h; chars = []; plain = tt; parts = rw z }

stands_by : {xml : List ℕ} {from to : ℕ} → from ≤ to → to ≤ length xml → Standing (part xml from to) → CharsStand xml from to
stands_by f i s = record { forward = f; inside = i; chars = s.chars; plain = s.plain; parts = s.are }

pub stands-ascii : {xml : List ℕ} {from to : ℕ} → Ran 0x7F xml from to → CharsStand xml from to
stands-ascii {xml} {from} {to} r = stands_by r.forward r.inside (ascii-standing (part xml from to) (quiets_at xml from (to - from) r.all (omega (arith, r.forward, r.inside))))

-- a piece of the XML whose first n bytes are UTF-8
pub stands_utf8 : {xml piece : List ℕ} {from end n : ℕ} → from ≤ end → end ≤ length xml → piece ≡ take (end - from) (drop from xml) → Ran 0xFF piece 0 n → Utf8s (take n piece) → CharsStand xml from (from + n)
stands_utf8 {xml} {piece} {from} {end} {n} f h e r u =
    let l : length piece ≡ end - from = ap length e ∙ length-take-le (end - from) (drop from xml) (omega (arith, length-drop from xml)) in
    let m : n ≤ end - from = omega (arith, r.inside, l) in
    let z : from + n - from ≡ n = omega arith in
    let y : n - 0 ≡ n = omega arith in
    let p : take n piece ≡ part xml from (from + n) = ap (take n) e ∙ taken_twice n (end - from) (drop from xml) m ∙ ap (λ (k : ℕ). take k (drop from xml)) (sym z) in
    stands_by (omega arith) (omega arith) (subst Standing p (utf8_standing 0xFF u (quiets_of piece n (rw y at r.all) (omega (arith, l))))) where
      taken_twice : (n m : ℕ) (s : List ℕ) → n ≤ m → take n (take m s) ≡ take n s
      taken_twice zero m s h = refl
      taken_twice (suc n) zero s h = absurd (omega arith)
      taken_twice (suc n) (suc m) [] h = refl
      taken_twice (suc n) (suc m) (b ∷ s) h = ap (λ (l : List ℕ). b ∷ l) (taken_twice n m s (omega arith))

-- ---- A character that is next

first_byte : {t : List ℕ} (rest : List ℕ) → Plain t t → get_or (t ++ rest) 0 0 ≡ 0x3C → ⊥
unfolding T.Special
first_byte rest p e = go p.utf8 p.not_special e where
  go : {c : ℕ} {t : List ℕ} → Utf8 c t → (T.Special c → ⊥) → get_or (t ++ rest) 0 0 ≡ 0x3C → ⊥
  go (one h) n e = n (inr (inl e))
  go (two g h) n e = omega arith
  go (three g h s) n e = omega arith
  go (four g h) n e = omega arith

-- at no `<` no item ends
pub no_end : (xml : List ℕ) (i : ℕ) → i < length xml → (get_or xml i 0 ≡ 0x3C → ⊥) → common item_end (drop i xml) ≡ 0
unfolding item_end ascii common
no_end xml i h n = rw (cons_at xml i h, ne_eqb 0x3C (get_or xml i 0) (λ q. n (sym q)))

module _ (xml : List ℕ) (i : ℕ) (t l : List ℕ) (p : Plain t t) (here : drop i xml ≡ t ++ l) (h : i ≤ length xml) where
  some : 1 ≤ length t
  some = character-some t t (inr (inr (inr (inr p))))

  inside : i + length t ≤ length xml
  inside = omega (arith, ap length here, length-append t l, length-drop i xml)

  behind : drop (i + length t) xml ≡ l
  behind = seam xml i t l [] (here ∙ sym (append-nil (t ++ l))) ∙ append-nil l

  takes_it : TakesAt (character (drop i xml)) t xml i (i + length t)
  takes_it = (ap character here ∙ (character-matches plain-matches).complete t t l (inr (inr (inr (inr p)))) ∙ ap (takes t) (sym behind), omega (arith, some), inside)

  not_less : get_or xml i 0 ≡ 0x3C → ⊥
  not_less e =
      let z : i + 0 ≡ i = omega arith in
      let q : get_or (drop i xml) 0 0 ≡ get_or xml i 0 = rw z at (get_or-drop i xml 0 0) in
      first_byte l p (ap (λ (k : List ℕ). get_or k 0 0) (sym here) ∙ q ∙ e)

  no_item_end : common item_end (drop i xml) ≡ 7 → ⊥
  no_item_end e = let z = no_end xml i (omega (arith, inside, some)) not_less in omega arith

  end_fails : literal item_end (drop i xml) ≡ fails (common item_end (drop i xml))
  unfolding item_end ascii
  end_fails = literal-fails item_end xml i refl no_item_end

-- ---- A text is taken

many_on : (xml : List ℕ) (at : ℕ) (ts : List (List ℕ)) → Chars ts → (i size : ℕ) (rest : List ℕ) → drop i xml ≡ joined ts ++ rest → Reading xml at i size
    → Reading xml at (i + length (joined ts)) (size + length (joined ts))
unfolding Chars joined
many_on xml at [] c i size rest e r = let z : i + 0 ≡ i = omega arith in let y : size + 0 ≡ size = omega arith in rw (z, y) r
many_on xml at (t ∷ ts) c i size rest e r =
    let d : drop i xml ≡ t ++ (joined ts ++ rest) = e ∙ append_assoc t (joined ts) rest in
    let h = r.goes.inside in
    let l = joined ts ++ rest in
    let w = takes_it xml i t l c.0 d h in
    let v : Reading xml at (i + length t) (size + length t) = more r refl (no_item_end xml i t l c.0 d h) w (omega arith) refl in
    let z : i + length t + length (joined ts) ≡ i + length (t ++ joined ts) = omega (arith, length-append t (joined ts)) in
    let y : size + length t + length (joined ts) ≡ size + length (t ++ joined ts) = omega (arith, length-append t (joined ts)) in
    rw (z, y) at (many_on xml at ts c.1 (i + length t) (size + length t) rest (behind xml i t l c.0 d h) v)

part-long : (xml : List ℕ) {i to : ℕ} → i ≤ to → to ≤ length xml → length (part xml i to) ≡ to - i
part-long xml {i} {to} f h = length-take-le (to - i) (drop i xml) (omega (arith, length-drop i xml))

chars-long : {xml : List ℕ} {i to : ℕ} (s : CharsStand xml i to) → length (joined s.chars) ≡ to - i
chars-long {xml} {i} {to} s = ap length (sym s.parts) ∙ part-long xml s.forward s.inside

chars_here : {xml : List ℕ} {i to : ℕ} (s : CharsStand xml i to) → drop i xml ≡ joined s.chars ++ drop (to - i) (drop i xml)
chars_here {xml} {i} {to} s = sym (take-append-drop (to - i) (drop i xml)) ∙ ap (λ (l : List ℕ). l ++ drop (to - i) (drop i xml)) s.parts

pub run_on : {xml : List ℕ} {at i size run : ℕ} → Reading xml at i size → CharsStand xml i run → Reading xml at run (size + (run - i))
run_on {xml} {at} {i} {size} {run} r s =
    let n = chars-long s in
    let z : i + length (joined s.chars) ≡ run = omega (arith, n, s.forward) in
    rw (z, n) at (many_on xml at s.chars s.plain i size (drop (run - i) (drop i xml)) (chars_here s) r)

-- from the start of a text
pub opened : {xml : List ℕ} {at run : ℕ} → at ≤ length xml → CharsStand xml at run → Reading xml at run (run - at)
opened {xml} {at} {run} h s = let z : 0 + (run - at) ≡ run - at = omega arith in rw z at (run_on (start h) s)

-- what is left of a text that was taken before
pub known_on : {xml : List ℕ} {at i size : ℕ} → Reading xml at i size → Known xml at → Known xml i
unfolding resumed
known_on {xml} {at} {i} r k = go (until character item_end (drop i xml)) refl where
  go : (m : Match (List (List ℕ))) → until character item_end (drop i xml) ≡ m → Known xml i
  go (fails n) q =
      let z : fails (i - at + n) ≡ takes k.0 k.1 = sym (r.goes.goes ∙ ap (resumed (i - at) r.us) q) ∙ k.2 in
      differ cc
  go (takes vs rest) q = (vs, rest, q)

-- ---- A text that was taken before

later_byte : {c : ℕ} {t : List ℕ} → Utf8 c t → (k : ℕ) → 1 ≤ k → k < length t → (0x80 ≤ get_or t k 0) × (get_or t k 0 < 0xC0)
later_byte u zero h l = absurd (omega arith)
later_byte (one g) (suc k) h l = absurd (omega arith)
later_byte (two g f) (suc zero) h l = (omega arith, omega arith)
later_byte (two g f) (suc (suc k)) h l = absurd (omega arith)
later_byte (three g f s) (suc zero) h l = (omega arith, omega arith)
later_byte (three g f s) (suc (suc zero)) h l = (omega arith, omega arith)
later_byte (three g f s) (suc (suc (suc k))) h l = absurd (omega arith)
later_byte (four g f) (suc zero) h l = (omega arith, omega arith)
later_byte (four g f) (suc (suc zero)) h l = (omega arith, omega arith)
later_byte (four g f) (suc (suc (suc zero))) h l = (omega arith, omega arith)
later_byte (four g f) (suc (suc (suc (suc k)))) h l = absurd (omega arith)

-- no byte at this place goes on with a character
abbrev pub Apart : (xml : List ℕ) (i : ℕ) → Type 0
Apart xml i = i < length xml → (get_or xml i 0 < 0x80) ⊎ (0xC0 ≤ get_or xml i 0)

module _ {U : List ℕ → List ℕ → Type 0} {u : List ℕ → Match (List ℕ)} (w : List ℕ) (x : Matches U u) (some : (a form : List ℕ) → U a form → 1 ≤ length form) where
  -- where the literal does not stand, the forms do not end
  none_left : (l : List ℕ) {n : ℕ} → literal w l ≡ fails n → (rest : List ℕ) → until u w l ≡ takes [] rest → ⊥
  unfolding one_of shifted before
  none_left l {n} f rest e = go (u l) refl (sym (until-step w x some l) ∙ e) where
    by : (k : ℕ) (t : List ℕ) (m : Match (List (List ℕ))) → shifted k (before t m) ≡ takes [] rest → ⊥
    by k t (fails j) e = differ cc
    by k t (takes us r) e = let z : ◌≡◌ {A = List (List ℕ)} (t ∷ us) [] = cc in differ cc

    go : (m : Match (List ℕ)) → u l ≡ m → one_of l (literal w l) (u l) (λ v. until u w v) ≡ takes [] rest → ⊥
    go (fails j) q e =
        let z : one_of l (fails n) (fails j) (λ v. until u w v) ≡ takes [] rest = rw (f, q) at e in
        differ cc
    go (takes t r) q e = by (length l - length r) t (until u w r) (rw (f, q) at e)

  -- where they end, it stands
  pub ended_here : (l rest : List ℕ) → until u w l ≡ takes [] rest → l ≡ w ++ rest
  unfolding one_of
  ended_here l rest e = go (literal w l) refl ((literal-matches w).tells l) where
    go : (o : Match (Unit {0})) → literal w l ≡ o → Told (Is w) l o → l ≡ w ++ rest
    go o q (failed g) = absurd (none_left l q rest e)
    go o q (Taken-of {rest = r} form f d) =
        let v : until u w l ≡ takes [] r = until-step w x some l ∙ rw q in
        let s : ◌≡◌ {A = Match (List (List ℕ))} (takes [] r) (takes [] rest) = sym v ∙ e in
        let z : r ≡ rest = cc in
        d ∙ ap (λ (k : List ℕ). k ++ r) f ∙ ap (λ (k : List ℕ). w ++ k) z

-- where the item's end does not stand, the text does not end
pub not_ended : (l : List ℕ) {n : ℕ} → literal item_end l ≡ fails n → (rest : List ℕ) → until character item_end l ≡ takes [] rest → ⊥
not_ended = none_left item_end (character-matches plain-matches) character-some

module _ (xml : List ℕ) (i n : ℕ) (h : i + suc n ≤ length xml) (q : AllUnmarked xml i (suc n)) where
  here_unmarked : Unmarked (get_or xml i 0)
  here_unmarked = let z : i + 0 ≡ i = omega arith in rw z at (q 0 (omega arith))

  first_is : (l : List ℕ) → drop i xml ≡ l → get_or l 0 0 ≡ get_or xml i 0
  first_is l e = let z : i + 0 ≡ i = omega arith in ap (λ (k : List ℕ). get_or k 0 0) (sym e) ∙ rw z at (get_or-drop i xml 0 0)

  -- what stands there is no entity
  as_plain : (t form more : List ℕ) → Character t form → drop i xml ≡ form ++ more → Plain t form
  unfolding ascii
  as_plain t form more (inl f) e = absurd (here_unmarked.no_and (sym (first_is (form ++ more) e) ∙ ap (λ (l : List ℕ). get_or (l ++ more) 0 0) f.1))
  as_plain t form more (inr (inl f)) e = absurd (here_unmarked.no_and (sym (first_is (form ++ more) e) ∙ ap (λ (l : List ℕ). get_or (l ++ more) 0 0) f.1))
  as_plain t form more (inr (inr (inl f))) e = absurd (here_unmarked.no_and (sym (first_is (form ++ more) e) ∙ ap (λ (l : List ℕ). get_or (l ++ more) 0 0) f.1))
  as_plain t form more (inr (inr (inr (inl f)))) e = absurd (here_unmarked.no_and (sym (first_is (form ++ more) e) ∙ ap (λ (l : List ℕ). get_or (l ++ more) 0 0) f.1))
  as_plain t form more (inr (inr (inr (inr f)))) e = f

  no_end_here : literal item_end (drop i xml) ≡ fails (common item_end (drop i xml))
  unfolding item_end ascii
  no_end_here = literal-fails item_end xml i refl (λ e. let z = no_end xml i (omega arith) here_unmarked.no_less in omega arith)

  -- so some character is taken
  not_empty : (rest : List ℕ) → until character item_end (drop i xml) ≡ takes [] rest → ⊥
  not_empty rest e = not_ended (drop i xml) no_end_here rest e

pub told-character : (l t more : List ℕ) → character l ≡ takes t more → (form : List ℕ) × Character t form × (l ≡ form ++ more)
told-character l t more e = go (character l) ((character-matches plain-matches).tells l) e where
  go : (o : Match (List ℕ)) → Told Character l o → o ≡ takes t more → (form : List ℕ) × Character t form × (l ≡ form ++ more)
  go o (failed x) q = differ cc
  go o (Taken-of {a = a} {rest = r} form c d) q =
      let z : a ≡ t = cc in
      let y : r ≡ more = cc in
      (form, subst (λ (b : List ℕ). Character b form) z c, d ∙ ap (λ (k : List ℕ). form ++ k) y)

neither_way : (b : ℕ) → (b < 0x80) ⊎ (0xC0 ≤ b) → 0x80 ≤ b → b < 0xC0 → ⊥
neither_way b (inl x) y z = omega arith
neither_way b (inr x) y z = omega arith

-- a character that stands as it is ends inside the run, and the run goes on behind it
char-step : (xml : List ℕ) (i n : ℕ) → i + suc n ≤ length xml → AllUnmarked xml i (suc n) → Apart xml (i + suc n) → (t l : List ℕ) (p : Plain t t) (d : drop i xml ≡ t ++ l)
    → ((m : ℕ) → i + length t + m ≤ length xml → AllUnmarked xml (i + length t) m → Apart xml (i + length t + m) → Standing (take m (drop (i + length t) xml)))
    → Dec (length t ≤ suc n) → Standing (take (suc n) (drop i xml))
char-step xml i n h q a t l p d rec (yes k) =
    let b : drop (i + length t) xml ≡ l = behind xml i t l p d (omega arith) in
    let m = suc n - length t in
    let z : suc n ≡ length t + m = omega arith in
    let y : i + length t + m ≡ i + suc n = omega arith in
    let v = rec m (omega arith) (λ j g. let w : i + (length t + j) ≡ i + length t + j = omega arith in rw w at (q (length t + j) (omega arith))) (rw y a) in
    let s : take (suc n) (drop i xml) ≡ t ++ take m l = ap (take (suc n)) d ∙ ap (λ (j : ℕ). take j (t ++ l)) z ∙ take-append-add t l m in
    subst Standing (sym s) (standing-more p (subst (λ (x : List ℕ). Standing (take m x)) b v))
char-step xml i n h q a t l p d rec (no k) =
    let j : i + suc n < length xml = omega (arith, inside xml i t l p d (omega arith)) in
    let w : get_or xml (i + suc n) 0 ≡ get_or t (suc n) 0
    = sym (get_or-drop i xml (suc n) 0) ∙ ap (λ (x : List ℕ). get_or x (suc n) 0) d ∙ get_or-append t l 0 (suc n) (omega arith) in
    let c = later_byte p.utf8 (suc n) (omega arith) (omega arith) in
    absurd (neither_way (get_or xml (i + suc n) 0) (a j) (omega (arith, c.0, w)) (omega (arith, c.1, w)))

-- at the end of a text only `<` stands
empty_run : (xml : List ℕ) (i n : ℕ) (rest : List ℕ) → i + n ≤ length xml → AllUnmarked xml i n → until character item_end (drop i xml) ≡ takes [] rest → Standing (take n (drop i xml))
empty_run xml i zero rest h q e = standing-none
empty_run xml i (suc n) rest h q e = absurd (not_empty xml i n h q rest e)

next_run : (xml t : List ℕ) (left : List (List ℕ)) (i n : ℕ) (rest : List ℕ) → i + n ≤ length xml → AllUnmarked xml i n → Apart xml (i + n) → until character item_end (drop i xml) ≡ takes (t ∷ left) rest
    → ((j m : ℕ) → j + m ≤ length xml → AllUnmarked xml j m → Apart xml (j + m) → until character item_end (drop j xml) ≡ takes left rest → Standing (take m (drop j xml)))
    → Standing (take n (drop i xml))
next_run xml t left i zero rest h q a e rec = standing-none
next_run xml t left i (suc n) rest h q a e rec =
    let f = first_taken item_end (character-matches plain-matches) character-some (drop i xml) t left rest e in
    let c = told-character (drop i xml) t f.0 f.1 in
    let p = as_plain xml i n h q t c.0 f.0 c.1 c.2 in
    let d : drop i xml ≡ t ++ f.0 = c.2 ∙ ap (λ (l : List ℕ). l ++ f.0) p.parts in
    let o : Plain t t = record { code = p.code; utf8 = p.utf8; written = p.written; not_special = p.not_special; parts = refl } in
    let b : until character item_end (drop (i + length t) xml) ≡ takes left rest = ap (until character item_end) (behind xml i t f.0 o d (omega arith)) ∙ f.2 in
    char-step xml i n h q a t f.0 o d (λ m g r k. rec (i + length t) m g r k b) (dec_le (length t) (suc n))

whole-standing : (xml : List ℕ) (left : List (List ℕ)) (i n : ℕ) (rest : List ℕ) → i + n ≤ length xml → AllUnmarked xml i n → Apart xml (i + n) → until character item_end (drop i xml) ≡ takes left rest
    → Standing (take n (drop i xml))
whole-standing xml [] i n rest h q a e = empty_run xml i n rest h q e
whole-standing xml (t ∷ left) i n rest h q a e = next_run xml t left i n rest h q a e (λ j m g r k f. whole-standing xml left j m rest g r k f)

-- a run of unmarked bytes that ends where a character may start
pub runs_by : {xml : List ℕ} {from to : ℕ} → Passed xml from to → Apart xml to → Runs xml from to
runs_by {xml} {from} {to} r a =
    let z : from + (to - from) ≡ to = omega (arith, r.forward) in
    record {
      forward = r.forward;
      inside = r.inside;
      stands = λ k.
          stands_by r.forward r.inside (whole-standing xml k.0 from (to - from) k.1 (omega (arith, r.forward, r.inside)) r.all (rw z a) k.2);
    }

pub runs_none : {xml : List ℕ} {from : ℕ} → from ≤ length xml → Runs xml from from
runs_none h = record { forward = omega arith; inside = h; stands = λ k. stands-none h }

pub stands_runs : {xml : List ℕ} {from to : ℕ} → CharsStand xml from to → Runs xml from to
stands_runs s = record { forward = s.forward; inside = s.inside; stands = λ k. s }

-- ---- A text is put

record Left (xml : List ℕ) (i : ℕ) (ts left : List (List ℕ)) (rest : List ℕ) : Type 0 where
  others : List (List ℕ)
  text_is : joined left ≡ joined ts ++ joined others
  forms : until character item_end (drop (i + length (joined ts)) xml) ≡ takes others rest

step_left : (xml : List ℕ) (i next k : ℕ) (t : List ℕ) (ts left : List (List ℕ)) (rest : List ℕ) → next ≡ i + length t → (m : Match (List (List ℕ))) → until character item_end (drop next xml) ≡ m
    → shifted k (before t m) ≡ takes left rest → ((us : List (List ℕ)) → until character item_end (drop next xml) ≡ takes us rest → Left xml next ts us rest) → Left xml i (t ∷ ts) left rest
unfolding shifted before joined
step_left xml i next k t ts left rest n (fails j) q e f = differ cc
step_left xml i next k t ts left rest n (takes us r) q e f =
    let a : left ≡ t ∷ us = cc in
    let b : r ≡ rest = cc in
    let v = f us (q ∙ ap (takes us) b) in
    let z : next + length (joined ts) ≡ i + length (t ++ joined ts) = omega (arith, n, length-append t (joined ts)) in
    record {
      others = v.others;
      text_is = ap joined a ∙ ap (λ (l : List ℕ). t ++ l) v.text_is ∙ sym (append_assoc t (joined ts) (joined v.others));
      forms = ap (λ (j : ℕ). until character item_end (drop j xml)) (sym z) ∙ v.forms;
    }

many_left : (xml : List ℕ) (ts : List (List ℕ)) → Chars ts → (i : ℕ) (left : List (List ℕ)) (rest l : List ℕ) → i ≤ length xml → drop i xml ≡ joined ts ++ l → until character item_end (drop i xml) ≡ takes left rest → Left xml i ts left rest
unfolding Chars joined one_of
many_left xml [] c i left rest l h d e = let z : i + 0 ≡ i = omega arith in record { others = left; text_is = refl; forms = rw z e }
many_left xml (t ∷ ts) c i left rest l h d e =
    let g : drop i xml ≡ t ++ (joined ts ++ l) = d ∙ append_assoc t (joined ts) l in
    let k = joined ts ++ l in
    let w = takes_it xml i t k c.0 g h in
    let s : until character item_end (drop i xml) ≡ shifted (length (drop i xml) - length (drop (i + length t) xml)) (before t (until character item_end (drop (i + length t) xml)))
    = until-step item_end (character-matches plain-matches) character-some (drop i xml) ∙ rw (end_fails xml i t k c.0 g h, w.0) in
    step_left xml i (i + length t) (length (drop i xml) - length (drop (i + length t) xml)) t ts left rest refl (until character item_end (drop (i + length t) xml)) refl (sym s ∙ e)
    (λ us f. many_left xml ts c.1 (i + length t) us rest l w.2 (behind xml i t k c.0 g h) f)

-- a run is put
pub run-turn : {xml out₀ : List ℕ} {at to size : ℕ} {out : List ℕ} {i j run : ℕ} {out' : List ℕ} → Putting xml out₀ at to size out i j → Runs xml i run → Put (part xml i run) j out out' → length out' ≡ length out
    → Putting xml out₀ at to size out' run (j + (run - i)) × (j + (run - i) ≤ to + size)
run-turn {xml} {out₀} {at} {to} {size} {out} {i} {j} {run} {out'} p u c s =
    let n = run - i in
    let r = u.stands (p.left, p.ready.rest, p.forms) in
    let m = chars-long r in
    let z : i + length (joined r.chars) ≡ run = omega (arith, m, r.forward) in
    let l = many_left xml r.chars r.plain i p.left p.ready.rest (drop n (drop i xml)) p.inside_xml (chars_here r) p.forms in
    let t = take n (drop i xml) in
    let e : joined p.left ≡ t ++ joined l.others = l.text_is ∙ ap (λ (k : List ℕ). k ++ joined l.others) (sym r.parts) in
    let y : length t ≡ n = part-long xml r.forward r.inside in
    let room : j + n ≤ to + size = omega (arith, size_is p, p.place, ap length e, length-append t (joined l.others), y) in (
      record {
        ready = p.ready;
        inside_xml = r.inside;
        pre = p.pre ++ t;
        left = l.others;
        text_is = p.text_is ∙ ap (λ (q : List ℕ). p.pre ++ q) e ∙ sym (append_assoc p.pre t (joined l.others));
        forms = ap (λ (k : ℕ). until character item_end (drop k xml)) (sym z) ∙ l.forms;
        place = omega (arith, p.place, length-append p.pre t, y);
        same_size = s ∙ p.same_size;
        wrote = λ base done w g. subst (λ (q : List ℕ). Wrote base q out' (j + n)) (append_assoc done p.pre t) (rw y at (c.puts base (done ++ p.pre) (p.wrote base done w g) (omega (arith, y))));
      },
      room,
    )

-- The Strings of an imported file, put one after the other. Assumes nothing.
use mathlib.Core.Path.{◌≡◌, refl, sym, ap, subst, ◌∙◌}
use mathlib.Core.Bool.{true}
use mathlib.Core.List.{List, [], ◌∷◌, ◌++◌, append-nil, append_assoc}
use Prim.Native.Nat.{ℕ, ◌+◌, ◌-◌, ◌^◌, ◌≤◌, ◌<◌}
use native.Mathlib.Omega.{arith}
use lib.Dec.{leb}
use lib.ListN.{length, take, drop, set, length-append, length-drop}
use lib.Seq.{drop-drop, take-append_seam, drop-append_seam}
use borrow.Author.Tests.{le-leb}
use Rattle.laws.specs.Small.{differ}
use Rattle.layout.specs.Text.{ascii}
use Rattle.layout.specs.Tree.{none}
use Rattle.layout.specs.Shortest.{shortest, fewest, numbered, id_bytes, body, short}
use Rattle.numbers.specs.Shortest.{written_at}
use Rattle.reading.specs.Reads.{seam}
use Rattle.xml_layout.specs.Xml.{item_start, item_end, document_start, document_end}
use Rattle.xml_layout.specs.Tree.{text_trees}
use Rattle.xml_reading.specs.Match.{Match, fails, takes, Told, failed, taken as Taken-of, shifted, literal, literal-matches, followed, mapped, until, document, whole as whole_xml}
use Rattle.xml_reading.specs.Text as T
use Rattle.xml_reading.specs.Text.{joined}
use Rattle.xml_reading.specs.Plain.{plain-matches}
use Rattle.xml_reading.specs.Document as D
use Rattle.xml_reading.specs.Document.{item-matches, item-some}
use Rattle.xml_reading.specs.Import.{texts_of}
use Rattle.xml_reading.specs.Strings.{short-more, built_length}
use Rattle.xml_reading.specs.Steps.{first_taken}
use Rattle.xml_escape.specs.Wrote.{Wrote, Put, wrote_one, put_one}
use Rattle.xml_import.specs.declared.Texted.{Texted}
use Rattle.std.specs.Prelude.{Ok, Err}
use Rattle.xml_import.specs.Places.{Known, TextAt, texted, character, text}
use Rattle.xml_import.specs.Puts.{taken, text_in, Last, LastIf, Ready, Verbatim, TextPut, string_bytes, StringPut, Fits, StringsPut}
use Rattle.xml_import.proofs.Whole.{item, short_last}
use Rattle.xml_import.proofs.Writing.{text-joined}
use Rattle.xml_import.proofs.Wholes.{whole, whole-text}
use Rattle.xml_import.proofs.Runs.{ended_here}
use Rattle.xml_import.proofs.Lengths.{short_one}

-- ---- A String

pub wrote-shortest : {base done out out' : List ℕ} {to : ℕ} → Wrote base done out to → (n : ℕ) → to + length (shortest n) ≤ length base → out' ≡ written_at out to n
    → Wrote base (done ++ shortest n) out' (to + length (shortest n))
wrote-shortest {base} {done} {out} {out'} {to} w n h e =
    let m = length (shortest n) in
    let l : length out ≡ length base = ap length w.stands ∙ omega (arith, w.long, length-append done (drop to base), length-drop to base) in
    let p : leb (to + m) (length out) ≡ true = le-leb (to + m) (length out) (omega arith) in
    let a : take to out ≡ done = ap (take to) w.stands ∙ subst (λ (k : ℕ). take k (done ++ drop to base) ≡ done) w.long (take-append_seam done (drop to base)) in
    let b : drop (to + m) out ≡ drop (to + m) base
    = ap (drop (to + m)) w.stands ∙ sym (drop-drop m to (done ++ drop to base))
    ∙ ap (drop m) (subst (λ (k : ℕ). drop k (done ++ drop to base) ≡ drop to base) w.long (drop-append_seam done (drop to base))) ∙ drop-drop m to base in
    record { long = length-append done (shortest n) ∙ omega (arith, w.long); stands = e ∙ rw (p, a, b) }

-- a length of one byte, and any length
pub put_small : {out out' : List ℕ} {to : ℕ} (n : ℕ) → n < 128 → out' ≡ set out to n → Put (shortest n) to out out'
put_small n h e = rw (short_one n h) (put_one n e)

pub put-shortest : {out out' : List ℕ} {to : ℕ} (n : ℕ) → out' ≡ written_at out to n → Put (shortest n) to out out'
put-shortest n e = record { puts = λ base done w h. wrote-shortest w n h e }

module _ {xml : List ℕ} {at : ℕ} (to : ℕ) {size begin : ℕ} (o₀ o₁ o₂ o₃ : List ℕ) (r : Ready xml at size)
    (e : o₁ ≡ set o₀ to 2) (p : Put (shortest size) (to + 1) o₁ o₂) (b : begin ≡ to + 1 + length (shortest size)) (tp : TextPut xml at begin size o₂ o₃) where
  abbrev t : List ℕ
  t = text_in xml at

  sz : size ≡ length t
  sz = r.sized ∙ ap length (sym (text-joined r))

  ends_at : begin + size ≡ to + length (string_bytes t)
  ends_at = omega (arith, b, sz, ap (λ (k : ℕ). length (shortest k)) sz, length-append (shortest (length t)) t)

  puts_it : (base done : List ℕ) → Wrote base done o₀ to → to + 1 + length (shortest size) + size ≤ length base → Wrote base (done ++ string_bytes t) o₃ (begin + size)
  unfolding TextPut
  puts_it base done w h =
      let w₁ : Wrote base (done ++ (2 ∷ [])) o₁ (to + 1) = wrote_one 2 w (omega arith) e in
      let w₂ : Wrote base ((done ++ (2 ∷ [])) ++ shortest size) o₂ begin = rw b (p.puts base (done ++ (2 ∷ [])) w₁ (omega arith)) in
      let w₃ : Wrote base (((done ++ (2 ∷ [])) ++ shortest size) ++ t) o₃ (begin + size) = tp base ((done ++ (2 ∷ [])) ++ shortest size) w₂ (omega (arith, b)) in
      let a : ((done ++ (2 ∷ [])) ++ shortest size) ++ t ≡ done ++ ((2 ∷ []) ++ (shortest (length t) ++ t))
      = ap (λ (l : List ℕ). l ++ t) (append_assoc done (2 ∷ []) (shortest size)) ∙ append_assoc done ((2 ∷ []) ++ shortest size) t ∙ ap (λ (k : ℕ). done ++ ((2 ∷ []) ++ (shortest k ++ t))) sz in
      subst (λ (l : List ℕ). Wrote base l o₃ (begin + size)) a w₃

  pub string-put : StringPut xml at to size o₀ o₃ (begin + size)
  unfolding StringPut
  string-put = (ends_at, puts_it)

-- ---- The XML, taken apart

-- the texts from byte 73 on
pub after_start : (xml : List ℕ) (ts : List (List ℕ)) → texts_of xml ≡ document ts → (73 ≤ length xml) × (until item document_end (drop 73 xml) ≡ takes ts [])
unfolding D.document_of D.texts whole_xml followed shifted document_start ascii
after_start xml ts e = go (literal document_start xml) ((literal-matches document_start).tells xml) e where
  all : (m : Match (List (List ℕ))) → whole_xml xml m ≡ document ts → m ≡ takes ts []
  all (fails n) q = differ cc
  all (takes us []) q = let z : us ≡ ts = cc in rw z
  all (takes us (b ∷ l)) q = differ cc

  unshifted : (k : ℕ) (m : Match (List (List ℕ))) → shifted k m ≡ takes ts [] → m ≡ takes ts []
  unshifted k (fails n) q = differ cc
  unshifted k (takes us r) q = q

  go : (o : Match (Unit {0})) → Told (λ u bs. bs ≡ document_start) xml o → whole_xml xml (followed xml o (λ u rest. until item document_end rest)) ≡ document ts
      → (73 ≤ length xml) × (until item document_end (drop 73 xml) ≡ takes ts [])
  go o (failed g) q = differ cc
  go o (Taken-of {rest = rest} form f p) q =
      let x : xml ≡ document_start ++ rest = p ∙ ap (λ (l : List ℕ). l ++ rest) f in
      let d : drop 73 xml ≡ rest = ap (drop 73) x in
      (omega (arith, ap length x, length-append document_start rest), ap (until item document_end) d ∙ unshifted (length xml - length rest) (until item document_end rest) (all _ q))

-- an item's text from the sixth byte on
item-text : (l : List ℕ) (t more : List ℕ) → item l ≡ takes t more → (6 ≤ length l) × (text (drop 6 l) ≡ takes t more)
unfolding D.item followed shifted item_start ascii
item-text l t more e = go (literal item_start l) ((literal-matches item_start).tells l) e where
  unshifted : (k : ℕ) (m : Match (List ℕ)) → shifted k m ≡ takes t more → m ≡ takes t more
  unshifted k (fails n) q = differ cc
  unshifted k (takes us r) q = q

  go : (o : Match (Unit {0})) → Told (λ u bs. bs ≡ item_start) l o → followed l o (λ u rest. text rest) ≡ takes t more → (6 ≤ length l) × (text (drop 6 l) ≡ takes t more)
  go o (failed g) q = differ cc
  go o (Taken-of {rest = rest} form f p) q =
      let x : l ≡ item_start ++ rest = p ∙ ap (λ (k : List ℕ). k ++ rest) f in
      let d : drop 6 l ≡ rest = ap (drop 6) x in
      (omega (arith, ap length x, length-append item_start rest), ap text d ∙ unshifted (length l - length rest) (text rest) q)

text_forms : (l t more : List ℕ) → text l ≡ takes t more → (us : List (List ℕ)) × (until character item_end l ≡ takes us more) × (t ≡ joined us)
unfolding T.text mapped
text_forms l t more e = go (until character item_end l) refl e where
  go : (m : Match (List (List ℕ))) → until character item_end l ≡ m → mapped joined m ≡ takes t more → (us : List (List ℕ)) × (until character item_end l ≡ takes us more) × (t ≡ joined us)
  go (fails n) q e = differ cc
  go (takes us r) q e = let a : joined us ≡ t = cc in let b : r ≡ more = cc in (us, q ∙ ap (takes us) b, sym a)

told_text : (l t more : List ℕ) → text l ≡ takes t more → (form : List ℕ) × (l ≡ form ++ more)
told_text l t more e = go (text l) ((T.text-matches plain-matches).tells l) e where
  go : (o : Match (List ℕ)) → Told T.Texted l o → o ≡ takes t more → (form : List ℕ) × (l ≡ form ++ more)
  go o (failed x) q = differ cc
  go o (Taken-of {rest = r} form c d) q = let y : r ≡ more = cc in (form, d ∙ ap (λ (k : List ℕ). form ++ k) y)

end-long : length document_end ≡ 21
unfolding document_end ascii
end-long = refl

-- the last text ends 21 bytes before the XML does
pub last_at : {xml : List ℕ} {at bytes r : ℕ} (v : Last xml at bytes) → at ≤ length xml → r ≡ length v.t → (28 ≤ length xml) × TextAt xml at (texted r (length xml - 21))
unfolding TextAt
last_at {xml} {at} {bytes} {r} v h e =
    let f = told_text (drop at xml) v.t document_end v.takes_it in
    let us = text_forms (drop at xml) v.t document_end v.takes_it in
    let n = (whole us.0 (drop at xml) document_end us.1).0 in
    let d : drop (at + length f.0) xml ≡ document_end = seam xml at f.0 document_end [] (f.1 ∙ sym (append-nil (f.0 ++ document_end))) ∙ append-nil document_end in
    let z : at + length f.0 ≡ length xml - 21 = omega (arith, ap length f.1, length-append f.0 document_end, end-long, length-drop at xml, n) in
    let far : length v.t + 28 ≤ length xml - at = omega (arith, n, end-long, ap length us.2, length-drop at xml) in
    (omega arith, (v.t, e, (v.takes_it ∙ ap (takes v.t) (sym d ∙ ap (λ (k : ℕ). drop k xml) z), omega arith, omega arith), omega arith))

empty : (l : List (List ℕ)) → length l ≡ 0 → l ≡ []
empty [] e = refl
empty (x ∷ l) e = absurd (omega arith)

-- ---- One after the other

short_snoc : (ts : List (List ℕ)) (t : List ℕ) → short (text_trees (ts ++ t ∷ [])) ≡ short (text_trees ts) ++ string_bytes t
unfolding short text_trees id_bytes numbered body shortest fewest
short_snoc [] t = append-nil ((2 ∷ []) ++ ((shortest (length t) ++ t) ++ [])) ∙ ap (λ (l : List ℕ). (2 ∷ []) ++ l) (append-nil (shortest (length t) ++ t))
short_snoc (u ∷ ts) t =
    let first = id_bytes 13 2 ++ (body 13 u 0 ++ short none) in
    ap (λ (l : List ℕ). first ++ l) (short_snoc ts t) ∙ sym (append_assoc first (short (text_trees ts)) (string_bytes t))

short_le : (a c : List (List ℕ)) → length (short (text_trees a)) ≤ length (short (text_trees (a ++ c)))
unfolding short text_trees
short_le [] c = omega arith
short_le (u ∷ a) c = let x = short-more u a in let y = short-more u (a ++ c) in omega (arith, short_le a c, x, y)

-- some of the texts are put, and the others stand in the XML from i on
pub record Stringing (xml out₀ : List ℕ) (count size : ℕ) (out : List ℕ) (i to k : ℕ) : Type 0 where
  pub fits : Fits xml count size (length out₀)
  pub put : List (List ℕ)
  pub left : List (List ℕ)
  pub split : fits.ts ≡ put ++ left
  pub forms : until item document_end (drop i xml) ≡ takes left []
  pub inside_xml : i ≤ length xml
  pub counted : k ≡ length put
  pub place : to ≡ 133 + length (short (text_trees put))
  pub same_size : length out ≡ length out₀
  pub wrote : (base done : List ℕ) → Wrote base done out₀ 133 → 133 + length (short (text_trees fits.ts)) ≤ length base → Wrote base (done ++ short (text_trees put)) out to

pub start : {xml out₀ : List ℕ} {count size : ℕ} → Fits xml count size (length out₀) → Stringing xml out₀ count size out₀ 73 133 0
unfolding short text_trees
start {xml} {out₀} f =
    let a = after_start xml f.ts f.is in
    record {
      fits = f;
      put = [];
      left = f.ts;
      split = refl;
      forms = a.1;
      inside_xml = a.0;
      counted = refl;
      place = refl;
      same_size = refl;
      wrote = λ base done w h. rw (append-nil done) w;
    }

module _ {xml out₀ : List ℕ} {count size : ℕ} {out : List ℕ} {i to k : ℕ} (s : Stringing xml out₀ count size out i to k) where
  pub place_inside : to ≤ size
  place_inside =
      let b = built_length s.fits.ts in
      omega (arith, s.place, s.fits.sized, ap (λ (l : List (List ℕ)). length (short (text_trees l))) s.split, short_le s.put s.left)

  -- an item that is next
  pub record Next : Type 0 where
    pub t : List ℕ
    pub others : List (List ℕ)
    pub more : List ℕ
    pub is : s.left ≡ t ∷ others
    pub at_text : i + 6 ≤ length xml
    pub text_is : text (drop (i + 6) xml) ≡ takes t more
    pub then_them : until item document_end more ≡ takes others []

  pub next_item : k < count → Next
  next_item h = go s.left refl where
    go : (left : List (List ℕ)) → s.left ≡ left → Next
    go [] e = absurd (omega (arith, s.counted, s.fits.many, ap length s.split, length-append s.put s.left, ap length e))
    go (t ∷ others) e =
        let f = first_taken document_end (item-matches plain-matches) item-some (drop i xml) t others [] (s.forms ∙ ap (λ (l : List (List ℕ)). takes l []) e) in
        let g = item-text (drop i xml) t f.0 f.1 in
        record {
          t = t;
          others = others;
          more = f.0;
          is = e;
          at_text = omega (arith, g.0, length-drop i xml, s.inside_xml);
          text_is = ap text (sym (drop-drop 6 i xml)) ∙ g.1;
          then_them = f.2;
        }

  pub no_failure : (h : k < count) (place : ℕ) → TextAt xml (i + 6) (Err place) → ⊥
  unfolding TextAt
  no_failure h place f =
      let n = next_item h in
      let z : fails f.0 ≡ takes n.t n.more = sym f.1 ∙ n.text_is in
      differ cc

  -- what is known of it, and what holds behind it
  pub record Turned (bytes next : ℕ) : Type 0 where
    pub ready : Ready xml (i + 6) bytes
    pub small : bytes < 2 ^ 32
    pub after : i + 6 ≤ next
    pub fits_word : bytes + 7 ≤ next - (i + 6)
    pub inside_next : next ≤ length xml
    pub whole_if : next - (i + 6) ≡ bytes + 7 → Verbatim xml (i + 6) bytes
    pub room : to + 1 + length (shortest bytes) + bytes ≤ length out
    pub turns : {out' : List ℕ} {to' : ℕ} → length out' ≡ length out → StringPut xml (i + 6) to bytes out out' to' → Stringing xml out₀ count size out' next to' (k + 1)

  -- its text was taken before
  pub known_next : (h : k < count) → Known xml (i + 6)
  known_next h =
      let n = next_item h in
      let f = text_forms (drop (i + 6) xml) n.t n.more n.text_is in
      (f.0, n.more, f.1)

  pub last_next : (h : k < count) → LastIf xml (i + 6) (count - k) (size - to)
  last_next h one =
      let n = next_item h in
      let none : n.others ≡ [] = empty n.others (omega (arith, s.counted, s.fits.many, ap length s.split, length-append s.put s.left, ap length n.is)) in
      let rest : n.more ≡ document_end
      = ended_here document_end (item-matches plain-matches) item-some n.more [] (n.then_them ∙ ap (λ (l : List (List ℕ)). takes l []) none) ∙ append-nil document_end in
      let all : s.fits.ts ≡ s.put ++ n.t ∷ [] = s.split ∙ ap (λ (l : List (List ℕ)). s.put ++ l) (n.is ∙ ap (λ (l : List (List ℕ)). n.t ∷ l) none) in
      let b = built_length s.fits.ts in
      let c : length (short (text_trees s.fits.ts)) ≡ length (short (text_trees s.put)) + (1 + length (shortest (length n.t)) + length n.t)
      = ap (λ (l : List (List ℕ)). length (short (text_trees l))) all ∙ short_last s.put n.t in
      record {
        t = n.t;
        takes_it = n.text_is ∙ ap (takes n.t) rest;
        long = omega (arith, s.fits.sized, s.place);
        small = omega (arith, s.fits.short_file_lem);
      }

  pub turn : (h : k < count) (r : Texted) → TextAt xml (i + 6) (Ok r) → Turned r.size r.next
  unfolding TextAt StringPut taken
  turn h r u =
      let bytes = r.size in
      let next = r.next in
      let n = next_item h in
      let z : takes n.t n.more ≡ takes u.0 (drop next xml) = sym n.text_is ∙ u.2.0 in
      let same_text : n.t ≡ u.0 = cc in
      let same_rest : n.more ≡ drop next xml = cc in
      let f = text_forms (drop (i + 6) xml) n.t n.more n.text_is in
      let sz : bytes ≡ length n.t = u.1 ∙ ap length (sym same_text) in
      let whole_ts : s.fits.ts ≡ (s.put ++ n.t ∷ []) ++ n.others
      = s.split ∙ ap (λ (l : List (List ℕ)). s.put ++ l) n.is ∙ sym (append_assoc s.put (n.t ∷ []) n.others) in
      let more_bytes : length (short (text_trees s.put)) + (1 + length (shortest (length n.t)) + length n.t) ≤ length (short (text_trees s.fits.ts))
      = within (s.put ++ n.t ∷ []) n.others s.fits.ts whole_ts (short_last s.put n.t) in
      let eq_short : length (shortest bytes) ≡ length (shortest (length n.t)) = ap (λ (j : ℕ). length (shortest j)) sz in
      let b = built_length s.fits.ts in
      let in_text : text_in xml (i + 6) ≡ n.t = ap taken n.text_is in
      let new_bytes : short (text_trees (s.put ++ n.t ∷ [])) ≡ short (text_trees s.put) ++ string_bytes n.t = short_snoc s.put n.t in
      let is_ready : Ready xml (i + 6) bytes = record { inside = n.at_text; us = f.0; rest = n.more; takes_them = f.1; sized = sz ∙ ap length f.2 } in
      record {
        ready = is_ready;
        after = omega (arith, u.2.1);
        fits_word = u.3;
        inside_next = u.2.2;
        whole_if = λ e. whole-text is_ready same_rest (omega (arith, u.2.1)) u.2.2 e;
        small = omega (arith, s.fits.short_file_lem);
        room = omega (arith, s.fits.room, s.same_size, s.place);
        turns = λ {out'} {to'} l p. record {
          fits = s.fits;
          put = s.put ++ n.t ∷ [];
          left = n.others;
          split = whole_ts;
          forms = ap (until item document_end) (sym same_rest) ∙ n.then_them;
          inside_xml = u.2.2;
          counted = omega (arith, s.counted, length-append s.put (n.t ∷ []));
          place = p.0 ∙ omega (arith, s.place, ap length new_bytes, length-append (short (text_trees s.put)) (string_bytes n.t), ap (λ (l : List ℕ). length (string_bytes l)) in_text);
          same_size = l ∙ s.same_size;
          wrote = λ base done w g.
              subst (λ (l : List ℕ). Wrote base l out' to')
              (append_assoc done (short (text_trees s.put)) (string_bytes (text_in xml (i + 6))) ∙ ap (λ (l : List ℕ). done ++ (short (text_trees s.put) ++ string_bytes l)) in_text ∙ ap (λ (l : List ℕ). done ++ l) (sym new_bytes))
              (p.1 base (done ++ short (text_trees s.put)) (s.wrote base done w g) (omega (arith, s.place)));
        };
      } where
        within : (a c whole : List (List ℕ)) → whole ≡ a ++ c → {m : ℕ} → length (short (text_trees a)) ≡ m → m ≤ length (short (text_trees whole))
        within a c whole e q = omega (arith, q, ap (λ (l : List (List ℕ)). length (short (text_trees l))) e, short_le a c)

  -- all are put
  pub ended : count ≤ k → StringsPut xml out₀ out
  unfolding StringsPut
  ended h ts is base done w g =
      let z : document s.fits.ts ≡ document ts = sym s.fits.is ∙ is in
      let same : s.fits.ts ≡ ts = cc in
      let none_left : s.left ≡ [] = empty s.left (omega (arith, s.counted, s.fits.many, ap length s.split, length-append s.put s.left)) in
      let all_put : s.put ≡ ts = sym (append-nil s.put) ∙ ap (λ (l : List (List ℕ)). s.put ++ l) (sym none_left) ∙ sym s.split ∙ same in
      let n : to ≡ 133 + length (short (text_trees ts)) = s.place ∙ ap (λ (l : List (List ℕ)). 133 + length (short (text_trees l))) all_put in
      rw (← all_put, ← s.place) (s.wrote base done w (rw same g))

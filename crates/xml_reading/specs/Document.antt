-- Matching a whole document: it is taken exactly if an export can write it, and else refused at the first byte where no export agrees (Req 13). Assumes nothing.
use Rattle.std.proofs.Math.Path.{◌≡◌, refl, ap}
use Rattle.std.proofs.Common.{sym, ◌∙◌, arith}
use mathlib.Core.List.{List, [], ◌∷◌, ◌++◌, append_assoc}
use Rattle.std.specs.Prelude.{◌↔◌, ℕ, ◌≤◌, length, get_or}
use Rattle.layout.specs.Text.{ascii}
use Rattle.xml_layout.specs.First.{FirstWrong}
use Rattle.xml_layout.specs.Xml.{document_start, item_start, item_end, document_end, Writable, end, escape, items, exported, Each, Exports}
use Rattle.xml_reading.specs.Match.{Match, Matches, literal, literal-matches, followed, then_matches, same_matches, Until, until, until-matches, Document, other, document, whole, takes-written, Judged, is_other, is_document, judged}
use Rattle.xml_reading.specs.Text.{Plain, Texted, text, text-matches}

-- an item: its text between its marks
pub record Item (t bs : List ℕ) : Type 0 where
  pub writable : Writable t
  pub parts : bs ≡ item_start ++ (escape t ++ item_end)

-- items and the end of the document
pub record Items (ts : List (List ℕ)) (bs : List ℕ) : Type 0 where
  pub writable : Each Writable ts
  pub parts : bs ≡ items ts ++ document_end

no_text : Texted [] item_end
unfolding escape
no_text = record { writable = end; parts = refl }

no_items : Items [] document_end
unfolding items Each
no_items = record { writable = tt; parts = refl }

-- an item begins with `<I`, the end of the document with `</`
item_first : (a form rest more : List ℕ) → Item a form → form ++ rest ≡ document_end ++ more → ⊥
unfolding item_start document_end ascii
item_first a form rest more f e =
    let z : ◌≡◌ {A = ℕ} 0x49 0x2F = ap (λ (l : List ℕ). get_or (l ++ rest) 1 0) (sym f.parts) ∙ ap (λ (l : List ℕ). get_or l 1 0) e in absurd (omega arith)

pub item-some : (a form : List ℕ) → Item a form → 1 ≤ length form
unfolding item_start ascii
item-some a form f = omega (arith, ap length f.parts)

items_of : (ts : List (List ℕ)) (bs : List ℕ) → Until Item document_end ts bs → Items ts bs
unfolding Until items Each
items_of [] bs f = record { writable = tt; parts = f }
items_of (t ∷ ts) bs f =
    let r = items_of ts f.1 f.4 in
    record {
      writable = (f.3.writable, r.writable);
      parts = rw (f.2, f.3.parts, r.parts) (sym (append_assoc (item_start ++ (escape t ++ item_end)) (items ts) document_end));
    }

of_items : (ts : List (List ℕ)) (bs : List ℕ) → Items ts bs → Until Item document_end ts bs
unfolding Until items Each
of_items [] bs f = f.parts
of_items (t ∷ ts) bs f =
    let i = item_start ++ (escape t ++ item_end) in (
      i,
      items ts ++ document_end,
      f.parts ∙ append_assoc i (items ts) document_end,
      record { writable = f.writable.0; parts = refl },
      of_items ts (items ts ++ document_end) (record { writable = f.writable.1; parts = refl }),
    )

module _ {char : List ℕ → Match (List ℕ)} (plain : Matches Plain char) where
  unfoldable pub item : List ℕ → Match (List ℕ)
  item l = followed l (literal item_start l) (λ u rest. text plain rest)

  pub item-matches : Matches Item item
  unfolding item
  item-matches =
      same_matches Item (then_matches (literal-matches item_start) (λ u. text-matches plain) (λ u. ([], item_end, no_text)))
      (λ t bs w. record { writable = w.5.writable; parts = w.3 ∙ ap (λ (l : List ℕ). l ++ w.2) w.4 ∙ ap (λ (l : List ℕ). item_start ++ l) w.5.parts })
      (λ t bs f. (tt, item_start, escape t ++ item_end, f.parts, refl, record { writable = f.writable; parts = refl }))

  items_matches : Matches Items (until item document_end)
  items_matches = same_matches Items (until-matches document_end item-matches item_first item-some) items_of of_items

  unfoldable pub texts : List ℕ → Match (List (List ℕ))
  texts l = followed l (literal document_start l) (λ u rest. until item document_end rest)

  pub texts-matches : Matches Exports texts
  unfolding texts exported
  texts-matches =
      same_matches Exports (then_matches (literal-matches document_start) (λ u. items_matches) (λ u. ([], document_end, no_items)))
      (λ ts bs w. record { writable = w.5.writable; parts = w.3 ∙ ap (λ (l : List ℕ). l ++ w.2) w.4 ∙ ap (λ (l : List ℕ). document_start ++ l) w.5.parts })
      (λ ts bs f. (tt, document_start, items ts ++ document_end, f.parts, refl, record { writable = f.writable; parts = refl }))

  -- the texts of a document, or the place of 64
  unfoldable pub document_of : List ℕ → Document (List (List ℕ))
  document_of xml = whole xml (texts xml)

  -- Req 13: "Import takes exactly what the export can write"
  pub takes_exactly : (xml : List ℕ) (ts : List (List ℕ)) → (document_of xml ≡ document ts) ↔ Exports ts xml
  unfolding document_of
  takes_exactly xml ts = (λ e. go (whole xml (texts xml)) (judged texts-matches xml) e, λ f. takes-written texts-matches ts xml f) where
    go : (d : Document (List (List ℕ))) → Judged texts-matches xml d → d ≡ document ts → Exports ts xml
    go d (is_other w) e = absurd (let z : ◌≡◌ {A = ℕ} 0 1 = cc in omega arith)
    go d (is_document {a = us} w) e = let q : us ≡ ts = cc in rw (← q) w

  -- Req 13: "64 for XML not of this form, at the first byte where no export agrees, or its end if it stops short, size apart"
  pub first_wrong : (xml : List ℕ) (place : ℕ) → document_of xml ≡ other place → FirstWrong Exports xml place
  unfolding document_of
  first_wrong xml place e = go (whole xml (texts xml)) (judged texts-matches xml) e where
    go : (d : Document (List (List ℕ))) → Judged texts-matches xml d → d ≡ other place → FirstWrong Exports xml place
    go d (is_other {n = n} w) e = let q : n ≡ place = cc in rw (← q) w
    go d (is_document {a = us} w) e = absurd (let z : ◌≡◌ {A = ℕ} 0 1 = cc in omega arith)

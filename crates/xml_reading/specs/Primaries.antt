-- What the primary of a file tree comes to (Req 13): something else, its texts, or the first that is null or not written. Assumes nothing.
use Rattle.std.specs.Prelude.{◌≡◌, Bool, ◌⊎◌, get_or, eqb}
use Rattle.std.proofs.Math.Path.{refl, ap}
use Rattle.std.proofs.Common.{sym, ◌∙◌, inl, inr, arith, eq-eqb, ne_eqb}
use Rattle.std.proofs.Math.Bool.{true, false, cond}
use mathlib.Core.List.{List, [], ◌∷◌}
use Prim.Native.Nat.{ℕ, zero, suc, ◌+◌, ◌<◌}
use Rattle.laws.specs.Small.{differ}
use Rattle.layout.specs.Text.{Utf8s}
use Rattle.layout.specs.Target.{string, object as anything, array, kind_of}
use Rattle.layout.specs.Tree.{Trees, none, tree, count, kind_at}
use Rattle.layout.specs.Layout.{Reader}
use Rattle.layout.specs.EnumList.{EnumEntry}
use Rattle.layout.specs.Named.{named}
use Rattle.layout.specs.File.{FileTree, FileLays}
use Rattle.reading.specs.Rules.{same_refl}
use Rattle.reading.specs.File.{Named, known, Judges}
use Rattle.xml_layout.specs.Xml.{Writable, Each}
use Rattle.xml_layout.specs.Tree.{Strings, TextArray, own_at, FirstFault}
use Rattle.xml_reading.specs.Written.{writable, writable_exactly, writable-passes}
use Rattle.xml_reading.specs.Answers.{something_else, bad, before, gathered, of_texts, primary}
use Rattle.xml_reading.specs.Strings.{TextOrNull, a_text, a_null, TextsOrNulls}
use Rattle.xml_reading.specs.Theorems.{entry_named, reader_is, of_texts_lem}

-- ---- The texts of an Array

not_written : {t : List ℕ} → Utf8s t → (Writable t → ⊥) → writable t ≡ false
not_written {t} u n = go (writable t) refl where
  go : (b : Bool) → writable t ≡ b → b ≡ false
  go true q = absurd (n ((writable_exactly u).0 q))
  go false q = refl

fault_behind : {k d number j : ℕ} {own : List ℕ} {cs rest : Trees} → FirstFault (tree k d own cs rest) number (suc j) → FirstFault rest number j
unfolding count kind_at own_at
fault_behind f = record { inside = omega (arith, f.inside); fault = f.fault; first = λ m h. f.first (suc m) (omega arith) }

-- the first that is null or not written is told, at its number counted from `at`
pub fault-told : (at : ℕ) (cs : Trees) (number j : ℕ) → TextsOrNulls cs → FirstFault cs number j → gathered at cs ≡ bad number (at + j)
unfolding gathered before count kind_at own_at TextsOrNulls
fault-told at none number j t f = absurd (omega (arith, f.inside))
fault-told at (tree k d own cs rest) number zero t f = go f.fault t.0 where
  z : at + 0 ≡ at
  z = omega arith

  go : ((number ≡ 62) × (k ≡ 0)) ⊎ ((number ≡ 63) × (k ≡ 13) × (Writable own → ⊥)) → TextOrNull k own → gathered at (tree k d own cs rest) ≡ bad number (at + 0)
  go (inl (n, e)) o = rw (n, e, z)
  go (inr (n, e, w)) (a_text q u) = rw (n, e, z, not_written u w)
  go (inr (n, e, w)) (a_null q) = absurd (omega arith)
fault-told at (tree k d own cs rest) number (suc j) t f =
    let v = f.first 0 (omega arith) in
    let r = fault-told (suc at) rest number j t.1 (fault_behind f) in
    let z : suc at + j ≡ at + suc j = omega arith in
    rw (v.0, writable-passes v.1, r, z)

-- texts that are all written, or a first that is null or not written
abbrev pub Sorted : Trees → Type 0
Sorted cs = ((ts : List (List ℕ)) × Strings ts cs × Each Writable ts) ⊎ ((number : ℕ) × (j : ℕ) × FirstFault cs number j)

pub texts_or_fault : (cs : Trees) → TextsOrNulls cs → Sorted cs
unfolding TextsOrNulls Strings Each count kind_at own_at
texts_or_fault none t = inl ([], tt, tt)
texts_or_fault (tree k d own cs rest) t = go t.0 (texts_or_fault rest t.1) where
  firsts : {j : ℕ} → k ≡ 13 → Writable own → ((m : ℕ) → m < j → (kind_at m rest ≡ 13) × Writable (own_at m rest))
      → (m : ℕ) → m < suc j → (kind_at m (tree k d own cs rest) ≡ 13) × Writable (own_at m (tree k d own cs rest))
  firsts a b f zero h = (a, b)
  firsts a b f (suc m) h = f m (omega arith)

  more : k ≡ 13 → Writable own → Sorted rest → Sorted (tree k d own cs rest)
  more e w (inl (ts, s, ws)) = inl (own ∷ ts, (e, refl, s), (w, ws))
  more e w (inr (n, j, f)) = inr (n, suc j, record { inside = omega (arith, f.inside); fault = f.fault; first = firsts e w f.first })

  here : (b : Bool) → writable own ≡ b → k ≡ 13 → Utf8s own → Sorted rest → Sorted (tree k d own cs rest)
  here true q e u r = more e ((writable_exactly u).0 q) r
  here false q e u r = inr (
    63,
    0,
    record {
      inside = omega arith;
      fault = inr (refl, e, λ w. let z : true ≡ false = sym (writable-passes w) ∙ q in differ cc);
      first = λ m h. absurd (omega arith);
    },
  )

  go : TextOrNull k own → Sorted rest → Sorted (tree k d own cs rest)
  go (a_null e) r = inr (62, 0, record { inside = omega arith; fault = inl (refl, e); first = λ m h. absurd (omega arith) })
  go (a_text e u) r = here (writable own) refl e u r

-- ---- The primary

module _ (es : List EnumEntry) (name_of : ℕ → List ℕ → Named) (judges : Judges es name_of) (ft : FileTree) (file : List ℕ) (w : FileLays es ft file) where
  -- an Array of String, with no shared objects
  pub array-primary : (a : TextArray es ft w) → primary name_of ft.names ft.objects ≡ gathered 1 a.children
  unfolding primary of_texts Reader
  array-primary a =
      let r = a.reader in
      let i = r.0 in
      let n : named es (get_or ft.names i []) (array string)
      = rw r.3 at (entry_named es ft.names w.readers w.lists.entries w.lists.listed i anything r.2) in
      let k : name_of 0 (get_or ft.names i []) ≡ known (array string) = judges.known_complete 0 (get_or ft.names i []) (array string) n in
      let o : ft.objects ≡ tree 17 (suc i) a.own a.children none = a.objects ∙ ap (λ (j : ℕ). tree 17 j a.own a.children none) r.1 in
      ap (primary name_of ft.names) o ∙ rw (k, same_refl (array string))

  -- another one, or shared objects
  pub other_primary : (TextArray es ft w → ⊥) → primary name_of ft.names ft.objects ≡ something_else
  unfolding primary kind_of
  other_primary none_such = go ft.objects refl where
    by : (kind i : ℕ) (own : List ℕ) (cs : Trees) → ft.objects ≡ tree kind (suc i) own cs none → (b : Bool) → of_texts (name_of 0 (get_or ft.names i [])) ≡ b → cond b (gathered 1 cs) something_else ≡ something_else
    by kind i own cs e false q = refl
    by kind i own cs e true q =
        let r = reader_is es name_of judges ft file w kind i own cs e (array string) (of_texts_lem es name_of judges (name_of 0 (get_or ft.names i [])) q) in
        absurd (none_such (record { id = suc i; own = own; children = cs; objects = e ∙ ap (λ (k : ℕ). tree k (suc i) own cs none) r.1; reader = r.0 }))

    go : (ts : Trees) → ft.objects ≡ ts → primary name_of ft.names ts ≡ something_else
    go none e = refl
    go (tree kind zero own cs rest) e = refl
    go (tree kind (suc i) own cs (tree k j o c r)) e = refl
    go (tree kind (suc i) own cs none) e = by kind i own cs e (of_texts (name_of 0 (get_or ft.names i []))) refl

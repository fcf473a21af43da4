-- From the contract of `export` to what is demanded of it. Assumes nothing.
use mathlib.Core.Path.{◌≡◌, refl, sym, ap, subst, ◌∙◌}
use mathlib.Core.List.{List, [], ◌∷◌, ◌++◌}
use mathlib.Core.Logic.{◌⊎◌, inl, inr}
use Prim.Native.Nat.{ℕ, suc, ◌*◌, ◌-◌, ◌≤◌, ◌<◌}
use native.Mathlib.Omega.{arith}
use lib.ListN.{length, take, drop, replicate, length-append, length-replicate}
use Rattle.laws.specs.Small.{differ}
use Rattle.layout.specs.EnumList.{EnumEntry}
use Rattle.layout.specs.Tree.{Trees, tree, none, count, kind_at}
use Rattle.layout.specs.Rows.{Row, flat, width}
use Rattle.layout.specs.File.{FileLays, shared_of, file_rows}
use Rattle.layout.specs.Table.{by_rows, room_of, table}
use Rattle.layout.specs.Branches.{TableSkips}
use Rattle.reading.specs.Answer.{Answer, refused, read}
use Rattle.reading.specs.Reads.{Small}
use Rattle.reading.specs.Drafts.{Draft, bare}
use Rattle.reading.specs.File.{Load, Loaded, file_at, to_load, table_of}
use Rattle.reading.specs.References.{length-flat}
use Rattle.reading.specs.Accepts.{file_drafts, file_bare}
use Rattle.reading.proofs.Accepts.{file_complete}
use Rattle.reading.specs.Theorems as T
use Rattle.reading.proofs.Theorems as T-laws
use Rattle.reading.specs.Output.{Rewritten, refusal, written, output_of}
use Rattle.names.specs.Entries.{enums_of}
use Rattle.names.specs.EntryLaws.{enums-written}
use Rattle.enums.specs.Judge.{Judgement, lawful, enums_at}
use Rattle.enums.specs.Judge.{refused as list-refused}
use Rattle.enums.specs.Lists.{Bytes, enums-complete, enums-sound}
use Rattle.readers.specs.Judged.{judged_name, judges}
use Rattle.branches.specs.Table.{rows_stand, file_skips}
use Rattle.shortest.specs.Rewrite.{words_of}
use Rattle.load.specs.Loads as load
use Rattle.load.specs.Under.{under_list, file_under, load_under, load_lawful}
use Rattle.layout.specs.Fits.{Fitting, rows_in}
use Rattle.xml_layout.specs.Xml.{exported, Exports}
use Rattle.xml_layout.specs.Tree.{FirstFault}
use Rattle.xml_reading.specs.Answers.{Gathered, texts, something_else, bad, gathered, told, primary, by_load, export_of}
use Rattle.xml_reading.specs.Answers as answers
use Rattle.xml_reading.specs.Strings.{array_holds, texts-rows}
use Rattle.xml_reading.specs.Theorems.{gathered-complete, all_pass, exported_is}
use Rattle.xml_reading.specs.Primaries.{Sorted, fault-told, texts_or_fault, array-primary, other_primary}
use Rattle.xml_export.specs.Contract.{answer_of, Ready}
use Rattle.xml_export.specs.Judging.{RefusedRow, refused-row}
use Rattle.xml_export.specs.Under.{by_list, export_under}
use Rattle.std.specs.Prelude.{Result, Err}
use Rattle.std.specs.Prelude.{Ok as Done}
use Rattle.answers.specs.declared.Refusal.{Refusal}
use Rattle.answers.specs.Refusals.{refusal as refused-with}
use Rattle.xml_theorems.specs.Export.{TextsIn, Holds, first_byte, RowOf, ExportsFile}
use Rattle.xml_theorems.proofs.Imported.{fits_in, fits_not, left_of, left_as_it_was, begins_with}

first_row : (ds : List Draft) → answers.first_byte ds ≡ first_byte (bare ds)
unfolding answers.first_byte
first_row [] = refl
first_row (d ∷ ds) = refl

words-kept : (x : Rewritten) (bytes words : List ℕ) → x ≡ written bytes → words_of x words ≡ words
unfolding words_of
words-kept x bytes words e = rw e

words-cleared : (x : Rewritten) (number place : ℕ) (words : List ℕ) → x ≡ refusal number place → words_of x words ≡ replicate (length words) 0
unfolding words_of
words-cleared x number place words e = rw e

module _ {enums file : List ℕ} {words : ℕ} (f : Fitting enums file words) where
  list_is : enums_at enums ≡ lawful f.es
  list_is = ap enums_at f.listed ∙ enums-complete f.es f.lawful

  entries_are : enums_of enums ≡ f.es
  entries_are = ap enums_of f.listed ∙ enums-written f.es f.lawful

  abbrev says : Gathered
  says = primary (judged_name f.es) f.fits.tree.names f.fits.tree.objects

  -- what exporting a file that a tree fits answers
  export_is : (out : ℕ) → export_under enums file words out ≡ told says (first_byte (rows_in f.fits)) out
  unfolding export_under by_list export_of by_load
  export_is out =
      let l = file_drafts f.es f.fits.tree file f.fits.lays in
      let e : answers.first_byte l ≡ first_byte (rows_in f.fits) = first_row l ∙ ap first_byte (file_bare f.es f.fits.tree file f.fits.lays) in
      rw (list_is, file_complete f.es (judged_name f.es) (judges f.es) file (room_of words) f.fits.tree f.fits.lays f.fits.room, e)

  by_primary : (g : Gathered) → says ≡ g → (out : ℕ) → export_under enums file words out ≡ told g (first_byte (rows_in f.fits)) out
  by_primary g e out = export_is out ∙ ap (λ (y : Gathered). told y (first_byte (rows_in f.fits)) out) e

  table_is : table_of (load_under enums file words) words ≡ table by_rows (rows_in f.fits) words
  table_is =
      ap (λ (x : Load). table_of x words) (load_lawful enums file words f.es list_is) ∙ T-laws.table_is f.es (judged_name f.es) (judges f.es) file words f.fits

  table-skips : TableSkips by_rows (room_of words) (table by_rows (rows_in f.fits) words) (length (rows_in f.fits))
  table-skips = file_skips f.es by_rows (room_of words) f.fits.tree file f.fits.lays (table by_rows (rows_in f.fits) words) (rows_stand (room_of words) (rows_in f.fits) (replicate (words - width * length (rows_in f.fits)) 0))

  -- ---- The row of a text

  table_long : length (table by_rows (rows_in f.fits) words) ≡ words
  table_long =
      let n = (T.rows_fit f.es (judged_name f.es) (judges f.es) file words f.fits).1 in
      let rest : List ℕ = replicate (words - width * length (rows_in f.fits)) 0 in
      omega (arith, n, length-append (flat (rows_in f.fits)) rest, length-flat (rows_in f.fits), length-replicate {A = ℕ} (words - width * length (rows_in f.fits)) 0)

  -- the table that a load leaves, with the entries as the code reads them
  ready : (fs : List EnumEntry) → fs ≡ f.es → (w : FileLays fs f.fits.tree file) × (file_rows fs f.fits.tree file w ≡ rows_in f.fits)
  ready fs e = subst (λ (es : List EnumEntry). (w : FileLays es f.fits.tree file) × (file_rows es f.fits.tree file w ≡ rows_in f.fits)) (sym e) (f.fits.lays, refl)

  abbrev loaded : Ready enums file (table by_rows (rows_in f.fits) words) (length (rows_in f.fits)) (count (shared_of f.fits.tree.objects))
  loaded =
      let v = ready (enums_of enums) entries_are in
      let rest : List ℕ = replicate (words - width * length (rows_in f.fits)) 0 in
      let n = (T.rows_fit f.es (judged_name f.es) (judges f.es) file words f.fits).0 in
      record {
        tree = f.fits.tree;
        lays = v.0;
        rest = rest;
        table_is = ap (λ (l : List Row). flat l ++ rest) (sym v.1);
        rows_are = ap length (sym v.1);
        shared_are = refl;
        room = omega (arith, ap length v.1, n, f.fits.room, ap room_of table_long);
      }

  same_texts : {kind id : ℕ} {own : List ℕ} {cs : Trees} (a : TextsIn f) → f.fits.tree.objects ≡ tree kind id own cs none → cs ≡ a.children
  same_texts {kind} {id} {own} {cs} a e =
      let q : tree kind id own cs none ≡ tree 17 a.id a.own a.children none = sym e ∙ a.objects in
      cc

  row_of : (a : TextsIn f) (number j : ℕ) → says ≡ bad number (suc j) → RowOf f a j (suc j)
  row_of a number j e =
      let p : primary (judged_name (enums_of enums)) f.fits.tree.names f.fits.tree.objects ≡ bad number (suc j) = rw entries_are e in
      let v : RefusedRow loaded number (suc j) = refused-row loaded p in
      let k : v.text.j ≡ j = omega (arith, v.text.here) in
      let c = same_texts a v.objects_are in
      record {
        kind = v.row_is.kind ∙ v.row_kind_lem ∙ ap (λ (i : ℕ). kind_at i v.texts_of_lem) k ∙ ap (kind_at j) c;
        parent = v.row_is.parent ∙ v.row_parent;
      }

  -- ---- By what the primary is

  holds_says : (a : TextsIn f) (ts : List (List ℕ)) → Holds f a ts → says ≡ texts ts
  holds_says a ts h = array-primary f.es (judged_name f.es) (judges f.es) f.fits.tree file f.fits.lays a ∙ gathered-complete 1 ts a.children h.0 (all_pass ts h.1)

  fault_says : (a : TextsIn f) (number j : ℕ) → FirstFault a.children number j → says ≡ bad number (suc j)
  fault_says a number j x =
      array-primary f.es (judged_name f.es) (judges f.es) f.fits.tree file f.fits.lays a ∙ fault-told 1 a.children number j (array_holds f.es f.fits.tree file f.fits.lays a) x
      ∙ ap (bad number) (omega arith)

  other_says : (TextsIn f → ⊥) → says ≡ something_else
  other_says none_such = other_primary f.es (judged_name f.es) (judges f.es) f.fits.tree file f.fits.lays none_such

  -- all of its texts are written, or there is a first that is null or not written
  either_says : (a : TextsIn f) → ((ts : List (List ℕ)) × Holds f a ts) ⊎ ((number : ℕ) × (j : ℕ) × FirstFault a.children number j)
  either_says a = go (texts_or_fault a.children (array_holds f.es f.fits.tree file f.fits.lays a)) where
    go : Sorted a.children → ((ts : List (List ℕ)) × Holds f a ts) ⊎ ((number : ℕ) × (j : ℕ) × FirstFault a.children number j)
    go (inl (ts, s, w)) = inl (ts, (s, w))
    go (inr x) = inr x

-- ---- What was exported

-- a file that was exported, as a file tree that fits
pub record Wrote (enums file : List ℕ) (words : ℕ) (xml : List ℕ) : Type 0 where
  pub fitting : Fitting enums file words
  pub array : TextsIn fitting
  pub ts : List (List ℕ)
  pub holds : Holds fitting array ts
  pub is : Exports ts xml

wrote : (enums file : List ℕ) (words out : ℕ) → Bytes enums → Small file → (xml : List ℕ) → export_under enums file words out ≡ written xml → Wrote enums file words xml
unfolding export_under by_list
wrote enums file words out bytes small xml e = go (enums_at enums) refl e where
  go : (j : Judgement) → enums_at enums ≡ j → by_list j (λ es. export_of (judged_name es) file words out) ≡ written xml → Wrote enums file words xml
  go (list-refused number place) q e = differ cc
  go (lawful es) q e =
      let l = rw q at (enums-sound enums bytes) in
      let v = exported_is es (judged_name es) (judges es) file words out xml small e in
      let t = v.holds in
      record {
        fitting = record { es = es; lawful = l.0; listed = l.1; fits = record { tree = t.tree_of_lem; lays = t.lays; room = omega (arith, v.room, texts-rows es t) } };
        array = record { id = t.id; own = t.own; children = t.children; objects = t.objects; reader = t.reader };
        ts = v.texts_of_lem;
        holds = (t.strings, v.is.writable);
        is = v.is;
      }

module _ (enums file : List ℕ) (words : ℕ) (out : List ℕ) {left end : List ℕ} {r : Result ℕ Refusal} (bytes : Bytes enums) (small : Small file) (long : length left ≡ words)
    (answers : r ≡ answer_of (export_under enums file words (length out)))
    (writes : end ≡ output_of (export_under enums file words (length out)) out)
    (leaves : left ≡ words_of (export_under enums file words (length out)) (table_of (load_under enums file words) words)) where
  exports : (f : Fitting enums file words) (a : TextsIn f) (ts : List (List ℕ)) → Holds f a ts → length (exported ts) ≤ length out
      → (r ≡ Done (length (exported ts))) × (end ≡ exported ts ++ drop (length (exported ts)) out) × (left ≡ table by_rows (rows_in f.fits) words)
  unfolding told
  exports f a ts h fit =
      let q = by_primary f (texts ts) (holds_says f a ts h) (length out) ∙ fits_in (exported ts) (length out) fit in (
        answers ∙ ap answer_of q,
        writes ∙ left_of (export_under enums file words (length out)) (exported ts) out q,
        leaves ∙ words-kept (export_under enums file words (length out)) (exported ts) (table_of (load_under enums file words) words) q ∙ table_is f,
      )

  too_small : (f : Fitting enums file words) (a : TextsIn f) (ts : List (List ℕ)) → Holds f a ts → length out < length (exported ts) → r ≡ Err (refused-with 21 (length (exported ts)))
  unfolding told
  too_small f a ts h fit = answers ∙ ap answer_of (by_primary f (texts ts) (holds_says f a ts h) (length out) ∙ fits_not (exported ts) (length out) fit)

  other : (f : Fitting enums file words) → (TextsIn f → ⊥) → r ≡ Err (refused-with 61 (first_byte (rows_in f.fits)))
  unfolding told
  other f none_such = answers ∙ ap answer_of (by_primary f something_else (other_says f none_such) (length out))

  fault : (f : Fitting enums file words) (a : TextsIn f) (number j : ℕ) → FirstFault a.children number j → (r ≡ Err (refused-with number (suc j))) × RowOf f a j (suc j)
  unfolding told
  fault f a number j x = (answers ∙ ap answer_of (by_primary f (bad number (suc j)) (fault_says f a number j x) (length out)), row_of f a number j (fault_says f a number j x))

  -- a length is answered for a file that was exported
  written_is : (n : ℕ) → r ≡ Done n → (x : Rewritten) → export_under enums file words (length out) ≡ x → (xml : List ℕ) × (export_under enums file words (length out) ≡ written xml) × (n ≡ length xml)
  written_is n e (refusal number place) q = let z : r ≡ Err (refused-with number place) = answers ∙ ap answer_of q in differ cc
  written_is n e (written xml) q = let z : r ≡ Done (length xml) = answers ∙ ap answer_of q in (xml, q, cc)

  only : (n : ℕ) → r ≡ Done n → (f : Fitting enums file words) × (a : TextsIn f) × (ts : List (List ℕ)) × Holds f a ts × (n ≤ length end) × Exports ts (take n end)
  only n e =
      let w = written_is n e (export_under enums file words (length out)) refl in
      let xml = w.0 in
      let v = wrote enums file words (length out) bytes small xml w.1 in
      let l : end ≡ xml ++ drop (length xml) out = writes ∙ left_of (export_under enums file words (length out)) xml out w.1 in
      let b = begins_with xml (drop (length xml) out) w.2 l in
      (v.fitting, v.array, v.ts, v.holds, b.0, subst (Exports v.ts) (sym b.1) v.is)

  skips : (n : ℕ) → r ≡ Done n → (f : Fitting enums file words) → TableSkips by_rows (room_of words) left (length (rows_in f.fits))
  skips n e f =
      let w = written_is n e (export_under enums file words (length out)) refl in
      let l : left ≡ table by_rows (rows_in f.fits) words
      = leaves ∙ words-kept (export_under enums file words (length out)) w.0 (table_of (load_under enums file words) words) w.1 ∙ table_is f in
      rw l (table-skips f)

  unchanged : (number place : ℕ) → r ≡ Err (refused-with number place) → (x : Rewritten) → export_under enums file words (length out) ≡ x → (end ≡ out) × (left ≡ replicate words 0)
  unchanged number place e (refusal m p) q =
      let t = table_of (load_under enums file words) words in
      let c : left ≡ replicate (length t) 0 = leaves ∙ words-cleared (export_under enums file words (length out)) m p t q in
      let k : length t ≡ words = omega (arith, ap length c, length-replicate {A = ℕ} (length t) 0) in
      (writes ∙ left_as_it_was (export_under enums file words (length out)) m p out q, c ∙ ap (λ (n : ℕ). replicate n 0) k)
  unchanged number place e (written xml) q = let z : r ≡ Done (length xml) = answers ∙ ap answer_of q in differ cc

  pub export_exact : ExportsFile enums file words left out end r
  export_exact = record {
    exports = exports;
    only = only;
    other = other;
    fault = fault;
    either = λ f a. either_says f a;
    too_small = too_small;
    unchanged = λ number place e. unchanged number place e (export_under enums file words (length out)) refl;
    skips = skips;
  }

-- what a load refuses, an export refuses
pub load_first : (enums file : List ℕ) (words out : ℕ) {number place : ℕ} → load.answer_of file (load_under enums file words) ≡ Err (refused-with number place)
    → export_under enums file words out ≡ refusal number place
unfolding load_under file_under under_list to_load export_under by_list export_of by_load
load_first enums file words out {number} {place} e = go (enums_at enums) e where
  by : (es : List EnumEntry) (x : Answer Loaded) → load.answer_of file (to_load x) ≡ Err (refused-with number place) → by_load (judged_name es) x out ≡ refusal number place
  by es (refused m p) e =
      let z : refused-with m p ≡ refused-with number place = cc in
      let a : m ≡ number = ap (λ (y : Refusal). y.number) z in
      let b : p ≡ place = ap (λ (y : Refusal). y.place) z in
      rw (a, b)
  by es (read l n) e = differ cc

  go : (j : Judgement) → load.answer_of file (to_load (under_list j (λ es. file_at (judged_name es) file (room_of words)))) ≡ Err (refused-with number place)
      → by_list j (λ es. export_of (judged_name es) file words out) ≡ refusal number place
  go (list-refused m p) e =
      let z : refused-with m p ≡ refused-with number place = cc in
      let a : m ≡ number = ap (λ (y : Refusal). y.number) z in
      let b : p ≡ place = ap (λ (y : Refusal). y.place) z in
      rw (a, b)
  go (lawful es) e = by es (file_at (judged_name es) file (room_of words)) e

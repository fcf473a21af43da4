-- What is promised of export and import, over the layout alone (Req 13): `named es` is the layout's relation for reader names under a list of enum types, and `name_of` reads them. Assumes nothing.
use Rattle.std.specs.Prelude.{◌≡◌, Bool, ◌&&◌, ◌↔◌, eqb, get_or}
use Rattle.std.proofs.Math.Path.{refl, sym, ap, subst}
use Rattle.std.proofs.Common.{◌∙◌, inl, inr, arith}
use Rattle.std.proofs.Math.Bool.{true, false, cond}
use mathlib.Core.List.{List, [], ◌∷◌, ◌++◌}
use Prim.Native.Nat.{ℕ, zero, suc, ◌≤◌, ◌<◌}
use Rattle.std.proofs.Math.Dec.{leb}
use Rattle.std.proofs.Math.ListN.{length}
use borrow.Author.Tests.{eqb-true, leb-true, le-leb}
use Rattle.laws.specs.Small.{differ, both}
use Rattle.layout.specs.Text.{Utf8s}
use Rattle.layout.specs.Target.{Target, string, object as anything, array, kind_of}
use Rattle.layout.specs.Tree.{Trees, none, tree, count, size}
use Rattle.layout.specs.Slot.{object, each}
use Rattle.layout.specs.Layout.{Reader, Value, Lays}
use Rattle.layout.specs.Resource.{Resource}
use Rattle.layout.specs.EnumList.{EnumEntry}
use Rattle.layout.specs.Named.{named}
use Rattle.layout.specs.File.{FileTree, shared_of, objects_plan, Entries, FileLays}
use Rattle.layout.specs.Table.{room_of}
use Rattle.layout.specs.Shortest.{short_file}
use Rattle.reading.specs.Answer.{Answer, refused, read, Ok}
use Rattle.reading.specs.Reads.{Small}
use Rattle.reading.specs.Output.{Rewritten, refusal, written, fitted}
use Rattle.reading.specs.Rules.{same, same_true, same_refl}
use Rattle.reading.specs.File.{Named, unknown, known, Judges, Loaded, file_at}
use Rattle.reading.specs.Accepts.{loaded_of, IsFile}
use Rattle.reading.proofs.Accepts.{file_complete, file_sound}
use Rattle.xml_layout.specs.Xml.{Writable, Each, exported, Exports}
use Rattle.xml_layout.specs.Tree.{array_name, string_name, text_trees, tree_of, Strings, TextFile}
use Rattle.xml_reading.specs.Match.{Document, other, document}
use Rattle.xml_reading.specs.Import.{texts_of, takes_exactly}
use Rattle.xml_reading.specs.Names.{array-named, string-named}
use Rattle.xml_reading.specs.Written.{writable, writable_exactly, writable_utf8, writable-passes}
use Rattle.xml_reading.specs.Laid.{imported_lays}
use Rattle.xml_reading.specs.Strings.{texts_utf8, texts-rows, built_short, one_reader}
use Rattle.xml_reading.specs.Answers.{imported, import_of, Gathered, texts, something_else, bad, before, gathered, of_texts, told, primary, by_load, export_of}

-- ---- The texts of trees

abbrev Passes : List ℕ → Type 0
Passes t = writable t ≡ true

pub gathered-complete : (at : ℕ) (ts : List (List ℕ)) (cs : Trees) → Strings ts cs → Each Passes ts → gathered at cs ≡ texts ts
unfolding gathered Strings Each before
gathered-complete at [] none s p = refl
gathered-complete at [] (tree k i own cs rest) s p = absurd s
gathered-complete at (t ∷ ts) none s p = absurd s
gathered-complete at (t ∷ ts) (tree k i own cs rest) s p = rw (s.0, s.1, p.0, gathered-complete (suc at) ts rest s.2 p.1)

-- a text before others
more-texts : (own : List ℕ) (g : Gathered) (ts : List (List ℕ)) → before own g ≡ texts ts → (us : List (List ℕ)) × (g ≡ texts us) × (ts ≡ own ∷ us)
unfolding before
more-texts own (texts us) ts e = (us, refl, cc)
more-texts own something_else ts e = differ cc
more-texts own (bad number place) ts e = differ cc

pub gathered-sound : (at : ℕ) (cs : Trees) (ts : List (List ℕ)) → gathered at cs ≡ texts ts → Strings ts cs × Each Passes ts
unfolding gathered Strings Each
gathered-sound at none ts e = let z : [] ≡ ts = cc in rw (← z) (tt, tt)
gathered-sound at (tree k i own cs rest) ts e = go (eqb k 13) (writable own) refl refl e (λ us q. gathered-sound (suc at) rest us q) where
  go : (p q : Bool) → eqb k 13 ≡ p → writable own ≡ q → cond p (cond q (before own (gathered (suc at) rest)) (bad 63 at)) (bad 62 at) ≡ texts ts
      → ((us : List (List ℕ)) → gathered (suc at) rest ≡ texts us → Strings us rest × Each Passes us) → Strings ts (tree k i own cs rest) × Each Passes ts
  go false q ep eq e f = differ cc
  go true false ep eq e f = differ cc
  go true true ep eq e f =
      let m = more-texts own (gathered (suc at) rest) ts e in
      let r = f m.0 m.1 in
      rw m.2 ((eqb-true k 13 ep, refl, r.0), (eq, r.1))

pub all_written : (ts : List (List ℕ)) → Each Utf8s ts → Each Passes ts → Each Writable ts
unfolding Each
all_written [] u p = tt
all_written (t ∷ ts) u p = ((writable_exactly u.0).0 p.0, all_written ts u.1 p.1)

pub all_pass : (ts : List (List ℕ)) → Each Writable ts → Each Passes ts
unfolding Each
all_pass [] w = tt
all_pass (t ∷ ts) w = (writable-passes w.0, all_pass ts w.1)

pub all_utf8 : (ts : List (List ℕ)) → Each Writable ts → Each Utf8s ts
unfolding Each
all_utf8 [] w = tt
all_utf8 (t ∷ ts) w = (writable_utf8 w.0, all_utf8 ts w.1)

pub text-strings : (ts : List (List ℕ)) → Strings ts (text_trees ts)
unfolding Strings text_trees
text-strings [] = tt
text-strings (t ∷ ts) = (refl, refl, text-strings ts)

-- ---- What is written

fitted-written : (bytes : List ℕ) (out : ℕ) {bs : List ℕ} → fitted bytes out ≡ written bs → (bs ≡ bytes) × (length bytes ≤ out)
unfolding fitted
fitted-written bytes out {bs} e = go (leb (length bytes) out) refl e where
  go : (t : Bool) → leb (length bytes) out ≡ t → cond t (written bytes) (refusal 21 (length bytes)) ≡ written bs → (bs ≡ bytes) × (length bytes ≤ out)
  go true q e = let z : bytes ≡ bs = cc in (sym z, leb-true (length bytes) out q)
  go false q e = differ cc

told-written : (g : Gathered) (first out : ℕ) {bs : List ℕ} → told g first out ≡ written bs → (ts : List (List ℕ)) × (g ≡ texts ts) × (bs ≡ exported ts) × (length (exported ts) ≤ out)
unfolding told
told-written (texts ts) first out e = let w = fitted-written (exported ts) out e in (ts, refl, w.0, w.1)
told-written something_else first out e = differ cc
told-written (bad number place) first out e = differ cc

-- ---- The reader of the primary

-- the names of readers have the readers' targets
pub entry_named : (es : List EnumEntry) (names : List (List ℕ)) (readers : List Target) (bs : List ℕ) → Entries es names readers bs
    → (i : ℕ) (t : Target) → i < length readers → named es (get_or names i []) (get_or readers i t)
unfolding Entries
entry_named es [] [] bs w i t h = absurd (omega arith)
entry_named es [] (u ∷ readers) bs w i t h = absurd w
entry_named es (name ∷ names) [] bs w i t h = absurd w
entry_named es (name ∷ names) (u ∷ readers) bs w zero t h = w.3.lawful
entry_named es (name ∷ names) (u ∷ readers) bs w (suc i) t h = entry_named es names readers w.1 w.4 i t (omega arith)

-- the primary's reader
primary-reader : (readers : List Target) (refers : ℕ → ℕ → Type 0) (k kind i : ℕ) (own : List ℕ) (cs : Trees) (bs : List ℕ)
    → Lays readers refers (objects_plan k) (tree kind (suc i) own cs none) bs → (t : Target) × Reader readers (suc i) t × (kind ≡ kind_of t)
unfolding Lays objects_plan each Value
primary-reader readers refers k kind i own cs bs w = go w.3 where
  go : Value readers refers (λ plan b. Lays readers refers plan cs b) (object anything) kind (suc i) own cs w.0 → (t : Target) × Reader readers (suc i) t × (kind ≡ kind_of t)
  go (inl v) = absurd (omega (arith, v.id_of))
  go (inr v) = (v.target, v.reader, v.laid.kind_of_lem)

module _ (es : List EnumEntry) (name_of : ℕ → List ℕ → Named) (judges : Judges es name_of) where
  -- it has the target that its name has
  pub reader_is : (ft : FileTree) (file : List ℕ) (w : FileLays es ft file) (kind i : ℕ) (own : List ℕ) (cs : Trees) → ft.objects ≡ tree kind (suc i) own cs none
      → (t : Target) → name_of 0 (get_or ft.names i []) ≡ known t → Reader w.readers (suc i) t × (kind ≡ kind_of t)
  unfolding Reader
  reader_is ft file w kind i own cs e t q =
      let k = count (shared_of ft.objects) in
      let refers = Resource (shared_of ft.objects) in
      let r = primary-reader w.readers refers k kind i own cs w.values (subst (λ (ts : Trees). Lays w.readers refers (objects_plan k) ts w.values) e w.laid) in
      let j : r.1.0 ≡ i = omega (arith, r.1.1) in
      let n : named es (get_or ft.names i []) r.0
      = rw (r.1.3, j) at (entry_named es ft.names w.readers w.lists.entries w.lists.listed r.1.0 anything r.1.2) in
      let s : known r.0 ≡ known t = sym (judges.known_complete 0 (get_or ft.names i []) r.0 n) ∙ q in
      let u : r.0 ≡ t = cc in
      subst (λ (v : Target). Reader w.readers (suc i) v × (kind ≡ kind_of v)) u (r.1, r.2)

  -- ---- What is exported

  -- every file that holds an Array of String whose texts are written is exported, where the table has a row for the Array and for each text
  pub exports : (ts : List (List ℕ)) (file : List ℕ) (words out : ℕ) → TextFile es ts file → Each Writable ts → suc (length ts) ≤ room_of words
      → export_of name_of file words out ≡ fitted (exported ts) out
  unfolding export_of by_load primary of_texts told Reader
  exports ts file words out f w room =
      let r = f.reader in
      let i = r.0 in
      let names = f.tree_of_lem.names in
      let n : named es (get_or names i []) (array string)
      = rw r.3 at (entry_named es names f.lays.readers f.lays.lists.entries f.lays.lists.listed i anything r.2) in
      let k : name_of 0 (get_or names i []) ≡ known (array string) = judges.known_complete 0 (get_or names i []) (array string) n in
      let o : f.tree_of_lem.objects ≡ tree 17 (suc i) f.own f.children none = f.objects ∙ ap (λ (j : ℕ). tree 17 j f.own f.children none) r.1 in
      let g : gathered 1 f.children ≡ texts ts = gathered-complete 1 ts f.children f.strings (all_pass ts w) in
      let p : primary name_of names f.tree_of_lem.objects ≡ texts ts = ap (primary name_of names) o ∙ rw (k, same_refl (array string), g) in
      rw (file_complete es name_of judges file (room_of words) f.tree_of_lem f.lays (omega (arith, texts-rows es f)), p)

  -- what a primary that is an Array of String says
  record Chosen (names : List (List ℕ)) (objects : Trees) (ts : List (List ℕ)) : Type 0 where
    kind : ℕ
    i : ℕ
    own : List ℕ
    children : Trees
    is : objects ≡ tree kind (suc i) own children none
    typed : name_of 0 (get_or names i []) ≡ known (array string)
    holds : gathered 1 children ≡ texts ts

  pub of_texts_lem : (x : Named) → of_texts x ≡ true → x ≡ known (array string)
  unfolding of_texts
  of_texts_lem (unknown number place) e = differ cc
  of_texts_lem (known t) e = ap known (same_true t (array string) e)

  chosen : (names : List (List ℕ)) (objects : Trees) (ts : List (List ℕ)) → primary name_of names objects ≡ texts ts → Chosen names objects ts
  unfolding primary
  chosen names none ts e = differ cc
  chosen names (tree kind zero own cs rest) ts e = differ cc
  chosen names (tree kind (suc i) own cs (tree k j o c r)) ts e = differ cc
  chosen names (tree kind (suc i) own cs none) ts e = go (of_texts (name_of 0 (get_or names i []))) refl e where
    go : (b : Bool) → of_texts (name_of 0 (get_or names i [])) ≡ b → cond b (gathered 1 cs) something_else ≡ texts ts → Chosen names (tree kind (suc i) own cs none) ts
    go true q e = record { kind = kind; i = i; own = own; children = cs; is = refl; typed = of_texts_lem (name_of 0 (get_or names i [])) q; holds = e }
    go false q e = differ cc

  -- a file that was read and whose primary is such an Array
  text_file : (file : List ℕ) (room : ℕ) (a : Loaded) (e : ℕ) → IsFile es file room a e → (ts : List (List ℕ)) → Chosen a.tree.names a.tree.objects ts → (f : TextFile es ts file) × (f.tree_of_lem ≡ a.tree)
  unfolding kind_of
  text_file file room a e v ts c =
      let r = reader_is a.tree file v.lays c.kind c.i c.own c.children c.is (array string) c.typed in (
        record {
          tree_of_lem = a.tree;
          lays = v.lays;
          id = suc c.i;
          own = c.own;
          children = c.children;
          objects = c.is ∙ ap (λ (k : ℕ). tree k (suc c.i) c.own c.children none) r.1;
          reader = r.0;
          strings = (gathered-sound 1 c.children ts c.holds).0;
        },
        refl,
      )

  -- what was exported is the XML of such a file's texts, all of them written, and the table had room for them
  pub record Exported (file : List ℕ) (words out : ℕ) (xml : List ℕ) : Type 0 where
    pub texts_of_lem : List (List ℕ)
    pub holds : TextFile es texts_of_lem file
    pub is : Exports texts_of_lem xml
    pub room : suc (length texts_of_lem) ≤ room_of words
    pub fits : length xml ≤ out

  pub exported_is : (file : List ℕ) (words out : ℕ) (xml : List ℕ) → Small file → export_of name_of file words out ≡ written xml → Exported file words out xml
  unfolding export_of by_load
  exported_is file words out xml small e = go (file_at name_of file (room_of words)) (file_sound es name_of judges file (room_of words) small) e where
    go : (x : Answer Loaded) → Ok (IsFile es file (room_of words)) x → by_load name_of x out ≡ written xml → Exported file words out xml
    go (refused number place) o e = differ cc
    go (read a next) o e =
        let v = o.got refl in
        let t = told-written (primary name_of a.tree.names a.tree.objects) _ out e in
        let ts = t.0 in
        let c = chosen a.tree.names a.tree.objects ts t.1 in
        let g = text_file file (room_of words) a next v ts c in
        let f = g.0 in
        let p = (gathered-sound 1 c.children ts c.holds).1 in
        record {
          texts_of_lem = ts;
          holds = f;
          is = record { writable = all_written ts (texts_utf8 es f) p; parts = t.2 };
          room = omega (arith, v.room_left, texts-rows es f, ap (λ (t : FileTree). size t.objects) g.1);
          fits = omega (arith, ap length t.2, t.3);
        }

  -- ---- What is imported

  -- the file built from written texts, within the limits, holds these texts: it is a file of 01, and by `file_short` no bytes of its file tree are shorter
  pub built_holds : (ts : List (List ℕ)) → Each Utf8s ts → length ts ≤ 65535 → length (short_file (tree_of ts)) ≤ 16777216 → TextFile es ts (short_file (tree_of ts))
  unfolding tree_of kind_of
  built_holds ts u n h =
      let w : FileLays es (tree_of ts) (short_file (tree_of ts)) = imported_lays es (array-named es) (string-named es) ts u (omega arith) h in
      let r = reader_is (tree_of ts) (short_file (tree_of ts)) w 17 0 [] (text_trees ts) refl (array string) (judges.known_complete 0 array_name (array string) (array-named es)) in
      record { tree_of_lem = tree_of ts; lays = w; id = 1; own = []; children = text_trees ts; objects = refl; reader = r.0; strings = text-strings ts }

  -- what was imported is the shortest file of some written texts that have this XML
  pub record Imported (xml : List ℕ) (out : ℕ) (file : List ℕ) : Type 0 where
    pub texts_of_lem : List (List ℕ)
    pub is : Exports texts_of_lem xml
    pub few : length texts_of_lem ≤ 65535
    pub built : file ≡ short_file (tree_of texts_of_lem)
    pub holds : TextFile es texts_of_lem file
    pub fits : length file ≤ out

  pub imported_is : (xml : List ℕ) (out : ℕ) (file : List ℕ) → import_of xml out ≡ written file → Imported xml out file
  unfolding import_of imported
  imported_is xml out file e = go (texts_of xml) refl e where
    within : (ts : List (List ℕ)) → texts_of xml ≡ document ts → (p q : Bool) → leb (length ts) 65535 ≡ p → leb (length (short_file (tree_of ts))) 16777216 ≡ q
        → cond (p && q) (fitted (short_file (tree_of ts)) out) (refusal 9 0) ≡ written file → Imported xml out file
    within ts d true true ep eq e =
        let x = (takes_exactly xml ts).0 d in
        let n = leb-true (length ts) 65535 ep in
        let w = fitted-written (short_file (tree_of ts)) out e in
        record {
          texts_of_lem = ts;
          is = x;
          few = n;
          built = w.0;
          holds = rw w.0 (built_holds ts (all_utf8 ts x.writable) n (leb-true (length (short_file (tree_of ts))) 16777216 eq));
          fits = omega (arith, ap length w.0, w.1);
        }
    within ts d true false ep eq e = differ cc
    within ts d false q ep eq e = differ cc

    go : (d : Document (List (List ℕ))) → texts_of xml ≡ d → imported d out ≡ written file → Imported xml out file
    go (other place) d e = differ cc
    go (document ts) d e = within ts d (leb (length ts) 65535) (leb (length (short_file (tree_of ts))) 16777216) refl refl e

  -- ---- Round trips

  -- Req 13: "Export then import keeps the texts and their order": what is exported is imported as the shortest file of the same texts, which holds them; 64 and 9 are never met
  pub export_then_import : (file : List ℕ) (words out : ℕ) (xml : List ℕ) → Small file → export_of name_of file words out ≡ written xml
      → (ts : List (List ℕ)) × TextFile es ts file × ((n : ℕ) → import_of xml n ≡ fitted (short_file (tree_of ts)) n) × TextFile es ts (short_file (tree_of ts))
  unfolding import_of imported room_of
  export_then_import file words out xml small e =
      let x = exported_is file words out xml small e in
      let ts = x.texts_of_lem in
      let h = built_short es x.holds in
      let few : length ts ≤ 65535 = omega (arith, x.room) in
      let d : texts_of xml ≡ document ts = (takes_exactly xml ts).1 x.is in
      (ts, x.holds, λ n. rw (d, le-leb (length ts) 65535 few, le-leb (length (short_file (tree_of ts))) 16777216 h), built_holds ts (texts_utf8 es x.holds) few h)

  -- and what is imported is exported as the same XML, where the table has a row for the Array and for each text
  pub import_then_export : (xml : List ℕ) (out : ℕ) (file : List ℕ) → import_of xml out ≡ written file
      → (ts : List (List ℕ)) × Exports ts xml × TextFile es ts file
      × ((words n : ℕ) → suc (length ts) ≤ room_of words → export_of name_of file words n ≡ fitted xml n)
  import_then_export xml out file e =
      let x = imported_is xml out file e in
      let ts = x.texts_of_lem in
      (ts, x.is, x.holds, λ words n room. exports ts file words n x.holds x.is.writable room ∙ ap (λ (bs : List ℕ). fitted bs n) (sym x.is.parts))

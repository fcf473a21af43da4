-- A file that was loaded is ready to be rewritten, by what load answered and left. Assumes nothing.
use Rattle.std.specs.Prelude.{◌≡◌, List, ◌++◌, ℕ, ◌+◌, ◌*◌, ◌-◌, length, Ok, Err}
use Rattle.answers.specs.declared.Refusal.{Refusal}
use Rattle.answers.specs.Refusals.{refusal as broken}
use Rattle.std.proofs.Math.Path.{refl, sym}
use Rattle.std.proofs.Common.{ap, ◌∙◌}
use Rattle.std.proofs.Math.ListN.{replicate}
use Rattle.std.proofs.lemmas.List.{length-replicate}
use Rattle.laws.specs.Small.{differ}
use Rattle.layout.specs.Rows.{Row, flat, width}
use Rattle.layout.specs.EnumList.{EnumEntry}
use Rattle.layout.specs.Table.{room_of}
use Rattle.layout.specs.Shortest.{short_file}
use Rattle.reading.specs.Answer.{Answer, refused, read}
use Rattle.reading.specs.Reads.{Small}
use Rattle.reading.specs.File.{Load, refusal, accepted, Loaded as FileLoaded, to_load, table_of, table_in}
use Rattle.layout.specs.Fits.{rows_in}
use Rattle.reading.proofs.Theorems.{accepted_is}
use Rattle.load.specs.declared.Loaded.{Loaded}
use Rattle.enums.specs.Judge.{lawful, enums_at}
use Rattle.enums.specs.Judge.{refused as list-refused}
use Rattle.reading.specs.Output as output
use Rattle.load.specs.Under.{under_list, file_under, load_under, load_lawful, accepted-list}
use Rattle.load.specs.Loads as load
use Rattle.shortest.specs.File.{header_is}
use Rattle.places.specs.Places.{file_places}
use Rattle.places.specs.Padding.{file_padding}
use Rattle.shortest.specs.Lists.{file_rewrites}
use Rattle.reading.specs.Output.{fitted, output_of}
use Rattle.shortest.specs.Rewrite.{by_load, rewrite_of, words_of}
use Rattle.shortest.specs.Theorems.{rewrite_is, padding_is}
use Rattle.rewrite.specs.Table.{places_of, table_places_lem}
use Rattle.rewrite.specs.Contract.{Rewriting, answer_of, Ready, Fits}
use Rattle.rewrite.specs.Whole.{rewrite_under}
use Rattle.readers.specs.Judged.{judged_name, judges}

-- under a list that is not refused, rewriting is rewriting under its entries
pub rewrite_lawful : (enums file : List ℕ) (words out : ℕ) (es : List EnumEntry) → enums_at enums ≡ lawful es → rewrite_under enums file words out ≡ rewrite_of (judged_name es) file words out
unfolding rewrite_under file_under under_list rewrite_of
rewrite_lawful enums file words out es e = rw e

-- under a list that is refused, so is every rewrite
pub rewrite_refused_list : (enums file : List ℕ) (words out : ℕ) {n i : ℕ} → enums_at enums ≡ list-refused n i → rewrite_under enums file words out ≡ output.refusal n i
unfolding rewrite_under file_under under_list by_load
rewrite_refused_list enums file words out e = rw e

module _ (enums file : List ℕ) (words : ℕ) where
  -- a refusal is handed on, and the words are all zero
  pub load_refused : {y : Refusal} (out : List ℕ) → Err y ≡ load.answer_of file (load_under enums file words)
      → (Err y ≡ answer_of (rewrite_under enums file words (length out)))
      × (out ≡ output_of (rewrite_under enums file words (length out)) out)
      × (table_of (load_under enums file words) words ≡ words_of (rewrite_under enums file words (length out)) (table_of (load_under enums file words) words))
  unfolding load_under rewrite_under to_load by_load table_in output_of words_of
  load_refused {y} out e = go (file_under enums file (room_of words)) e where
    go : (x : Answer FileLoaded) → Err y ≡ load.answer_of file (to_load x)
        → (Err y ≡ answer_of (by_load x (length out))) × (out ≡ output_of (by_load x (length out)) out)
        × (table_of (to_load x) words ≡ words_of (by_load x (length out)) (table_of (to_load x) words))
    go (refused m q) e =
        let z : y ≡ broken m q = cc in
        (ap Err z, refl, sym (ap (λ (k : ℕ). replicate k 0) (length-replicate words 0)))
    go (read a f) e = differ cc

  accepted_table : (rs : List Row) (rd sh : ℕ) → table_of (accepted rs rd sh) words ≡ flat rs ++ replicate (words - width * length rs) 0
  unfolding table_in
  accepted_table rs rd sh = refl

  -- the file is ready, and rewriting it answers what its tree's shortest bytes say
  pub record Good (readers rows padding : ℕ) : Type 0 where
    pub ready : Ready file (table_of (load_under enums file words) words) readers rows padding
    pub rewrites_to : (out : ℕ) → rewrite_under enums file words out ≡ fitted (short_file ready.tree) out

  pub loaded : {rows readers shared padding : ℕ} → Small file → Ok (load.loaded rows readers shared padding) ≡ load.answer_of file (load_under enums file words) → Good readers rows padding
  loaded {rows} {readers} {shared} {padding} small e = go (load_under enums file words) refl e where
    go : (x : Load) → load_under enums file words ≡ x → Ok (load.loaded rows readers shared padding) ≡ load.answer_of file x → Good readers rows padding
    go (refusal n p) q e = differ cc
    go (accepted rs rd sh) q e =
        let z : load.loaded rows readers shared padding ≡ load.loaded (length rs) rd sh (file_padding file rd rs) = cc in
        let e₁ : rows ≡ length rs = ap (λ (y : Loaded). y.rows) z in
        let e₂ : readers ≡ rd = ap (λ (y : Loaded). y.readers) z in
        let e₃ : padding ≡ file_padding file rd rs = ap (λ (y : Loaded). y.padding) z in
        let d = accepted-list enums file words rs rd sh q in
        let es = d.0 in
        let a = accepted_is es (judged_name es) (judges es) file words small rs rd sh (sym (load_lawful enums file words es d.1) ∙ q) in
        let f = a.0 in
        let rest : List ℕ = replicate (words - width * length rs) 0 in
        let t : table_of (load_under enums file words) words ≡ flat rs ++ replicate (words - width * length rs) 0 = ap (λ (y : Load). table_of y words) q ∙ accepted_table rs rd sh in
        let p : places_of file (table_of (load_under enums file words) words) readers rows ≡ file_places file (length f.tree.names) (rows_in f)
        = ap (λ (y : List ℕ). places_of file y readers rows) t ∙ ap (places_of file (flat rs ++ rest) readers) e₁ ∙ table_places_lem file rs rest readers
        ∙ ap (λ (k : ℕ). file_places file k rs) (e₂ ∙ a.2) ∙ ap (file_places file (length f.tree.names)) a.1 in
        record {
          ready = record {
            tree = f.tree;
            small = f.lays.short;
            pads = padding_is es (judged_name es) (judges es) file words f ∙ ap (λ (k : ℕ). length (short_file f.tree) + k) (sym (e₃ ∙ ap (λ (k : ℕ). file_padding file k rs) a.2 ∙ ap (file_padding file (length f.tree.names)) a.1));
            headed = header_is es f.tree file f.lays;
            rewrites = rw p (file_rewrites file es f.tree f.lays);
          };
          rewrites_to = λ out. rewrite_lawful enums file words out es d.1 ∙ rewrite_is es (judged_name es) (judges es) file words out f;
        }

  -- what fitting the loaded file answers and leaves is what rewriting does
  pub fitted_is : {readers rows padding : ℕ} {r : Rewriting} → Good readers rows padding → (out entry exit : List ℕ) {end : List ℕ}
      → entry ≡ table_of (load_under enums file words) words → Fits file entry exit out end readers rows padding r
      → (r ≡ answer_of (rewrite_under enums file words (length out)))
      × (end ≡ output_of (rewrite_under enums file words (length out)) out)
      × (exit ≡ words_of (rewrite_under enums file words (length out)) (table_of (load_under enums file words) words))
  fitted_is {readers} {rows} {padding} {r} g out entry exit {end} e f =
      let f₁ : Fits file (table_of (load_under enums file words) words) exit out end readers rows padding r = rw e at f in
      rw (g.rewrites_to (length out)) (f₁.holds g.ready)

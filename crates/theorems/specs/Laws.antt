-- From the contracts of `load` and `rewrite` to what is demanded of them. Assumes nothing.
use Rattle.std.specs.Prelude.{◌≡◌, refl, Bool, List, ◌++◌, ◌⊎◌, ℕ, suc, ◌*◌, ◌-◌, ◌<◌, ◌≤◌, take, drop, replicate, Err, Ok, Result}
use Rattle.std.proofs.Common.{ap, ◌∙◌, inl, inr, arith, length-append}
use Rattle.std.proofs.Math.Bool.{true, false}
use Rattle.std.proofs.Math.Dec.{leb}
use Rattle.std.proofs.Math.ListN.{length}
use Rattle.std.proofs.Math.Seq.{take-append_seam}
use borrow.Author.Tests.{le-leb, lt-leb, leb-true, leb-false}
use Rattle.laws.specs.Small.{differ}
use Rattle.layout.specs.Tree.{count}
use Rattle.layout.specs.Rows.{width}
use Rattle.layout.specs.File.{shared_of}
use Rattle.layout.specs.EnumList.{EnumEntry, write_enums, Enums, FirstBad, Unlawful}
use Rattle.layout.specs.Refusals.{LoadNumber}
use Rattle.layout.specs.Table.{room_of, by_rows, shape_of, table}
use Rattle.layout.specs.Branches.{TableSkips, TableRoots}
use Rattle.layout.specs.Shortest.{short_file}
use Rattle.enums.specs.Judge.{Judgement, enums_at}
use Rattle.enums.specs.Judge.{refused as list-refused, lawful as List-Lawful}
use Rattle.enums.specs.Lists.{Bytes, Says, judged-list, enums-sound}
use Rattle.load.specs.Under.{file_under, load_under, load_lawful, load_refused-list}
use Rattle.rewrite.specs.Whole.{rewrite_under}
use Rattle.places.specs.Padding.{file_padding}
use Rattle.reading.specs.Answer.{Answer, refused, read}
use Rattle.reading.specs.Reads.{Small}
use Rattle.reading.specs.File as reading
use Rattle.reading.specs.File.{Load, refusal, accepted, to_load, load_of, table_of, table_in}
use Rattle.branches.specs.Table.{Stand, rows_stand, file_skips}
use Rattle.branches.proofs.Table.{file_roots}
use Rattle.theorems.specs.Standing.{columns_stand}
use Rattle.layout.specs.Fits.{Fitting, rows_in}
use Rattle.theorems.specs.Fitted.{rows_are, table_is, rows_room, rewrite_is, least, again, stays, padding_is, table-length}
use Rattle.reading.proofs.Refusals.{refusal-number, refusal-place}
use Rattle.reading.proofs.Theorems as T
use Rattle.reading.specs.Output as output
use Rattle.reading.specs.Output.{fitted, output_of}
use Rattle.shortest.specs.Rewrite.{by_load, words_of}
use Rattle.load.specs.Loads.{Loading}
use Rattle.load.specs.Loads.{answer_of}
use Rattle.rewrite.specs.Contract as contract
use Rattle.theorems.specs.Loading.{IsLoaded, Loads}
use Rattle.theorems.specs.Rewriting.{Written, Rewrites, LoadsAgain, RewritesTwice}
use Rattle.readers.specs.Judged.{judged_name, judges, within-name}
use Rattle.load.specs.Loads.{loaded as rows_loaded}
use Rattle.load.specs.declared.Loaded as load_code
use Rattle.answers.specs.Refusals.{refusal as refusal_at}
use Rattle.answers.specs.declared.Refusal.{Refusal}

-- the range of a refusal under a lawful list
abbrev Placed : (file : List ℕ) (number place : ℕ) → Type 0
Placed file number place = LoadNumber number × (place ≤ length file)

-- how a load ends: with 32 for the list, with one refusal, placed in the file, or with a file tree that fits
pub data Ends (enums file : List ℕ) (words : ℕ) : Type 0 where
  bad_list : (place : ℕ) → FirstBad enums place → Unlawful enums → load_under enums file words ≡ refusal 32 place → Ends enums file words
  refuses : (es : List EnumEntry) → Enums es → enums ≡ write_enums es → (number place : ℕ) → load_under enums file words ≡ refusal number place → Placed file number place → Ends enums file words
  fits : Fitting enums file words → Ends enums file words

-- under a lawful list
ends_under : (enums file : List ℕ) (words : ℕ) → Small file → (es : List EnumEntry) → Enums es → enums ≡ write_enums es → Ends enums file words
ends_under enums file words small es w b = go (load_of (judged_name es) file words) refl where
  is : load_under enums file words ≡ load_of (judged_name es) file words
  is = load_lawful enums file words es (judged-list enums es w b)

  go : (x : Load) → load_of (judged_name es) file words ≡ x → Ends enums file words
  go (refusal n p) e =
      let i = refusal-number (judged_name es) (within-name es) file words n p e in
      let j = refusal-place (judged_name es) (within-name es) file words n p e in
      refuses es w b n p (is ∙ e) (i, j.0)
  go (accepted rows readers shared) e =
      let f = (T.accepted_is es (judged_name es) (judges es) file words small rows readers shared e).0 in
      fits (record { es = es; lawful = w; listed = b; fits = f })

pub ends : (enums file : List ℕ) (words : ℕ) → Bytes enums → Small file → Ends enums file words
ends enums file words bytes small = go (enums_at enums) refl (enums-sound enums bytes) where
  go : (j : Judgement) → enums_at enums ≡ j → Says enums j → Ends enums file words
  go (list-refused n i) e w =
      let z : n ≡ 32 = w.0 in
      bad_list i w.1 (λ es l b. let q = judged-list enums es l b in differ cc) (rw z at (load_refused-list enums file words e))
  go (List-Lawful es) e w = ends_under enums file words small es w.0 w.1

-- what a load leaves, where a file tree fits and where it refuses, in either shape
pub table_in_lem : {enums file : List ℕ} {words : ℕ} (f : Fitting enums file words) (columns : Bool) → table_in (shape_of columns) (load_under enums file words) words ≡ table (shape_of columns) (rows_in f.fits) words
unfolding table_in
table_in_lem f false = table_is f
table_in_lem f true = rw (rows_are f)

pub cleared_in : (enums file : List ℕ) (words m q : ℕ) → load_under enums file words ≡ refusal m q → (columns : Bool) → table_in (shape_of columns) (load_under enums file words) words ≡ replicate words 0
unfolding table_in
cleared_in enums file words m q e false = rw e
cleared_in enums file words m q e true = rw e

-- the rows of a file tree that fits stand in its table
table-stands : {enums file : List ℕ} {words : ℕ} (f : Fitting enums file words) (columns : Bool) {left : List ℕ} → left ≡ table (shape_of columns) (rows_in f.fits) words → Stand (shape_of columns) (room_of words) left (rows_in f.fits)
table-stands {words = words} f false e = rw e (rows_stand (room_of words) (rows_in f.fits) (replicate (words - width * length (rows_in f.fits)) 0))
table-stands {words = words} f true e = rw e (columns_stand (room_of words) (rows_in f.fits) (rows_room f) (replicate (words - width * room_of words) 0))

-- so the rule of the seventh word holds of it, and its objects' rows follow each other
table-skips : {enums file : List ℕ} {words : ℕ} (f : Fitting enums file words) (columns : Bool) {left : List ℕ} → left ≡ table (shape_of columns) (rows_in f.fits) words
    → TableSkips (shape_of columns) (room_of words) left (length (rows_in f.fits))
table-skips {enums} {file} {words} f columns {left} e = file_skips f.es (shape_of columns) (room_of words) f.fits.tree file f.fits.lays left (table-stands f columns e)

table-roots : {enums file : List ℕ} {words : ℕ} (f : Fitting enums file words) (columns : Bool) {left : List ℕ} → left ≡ table (shape_of columns) (rows_in f.fits) words
    → TableRoots (shape_of columns) (room_of words) left (length (rows_in f.fits)) (suc (count (shared_of f.fits.tree.objects)))
table-roots {enums} {file} {words} f columns {left} e = file_roots f.es (shape_of columns) (room_of words) f.fits.tree file f.fits.lays left (table-stands f columns e)

-- ---- Loading

-- what a load answers where a file tree fits
pub loads : {enums file : List ℕ} {words : ℕ} (f : Fitting enums file words)
    → answer_of file (load_under enums file words) ≡ Ok (rows_loaded (length (rows_in f.fits)) (length f.fits.tree.names) (count (shared_of f.fits.tree.objects)) (length file - length (short_file f.fits.tree)))
loads {enums} {file} {words} f =
    let p : file_padding file (length f.fits.tree.names) (rows_in f.fits) ≡ length file - length (short_file f.fits.tree) = omega (arith, padding_is f) in
    rw (rows_are f, p)

module _ (enums file : List ℕ) (words : ℕ) (columns : Bool) {left : List ℕ} {r : Loading} (bytes : Bytes enums) (small : Small file)
    (answers : r ≡ answer_of file (load_under enums file words))
    (leaves : left ≡ table_in (shape_of columns) (load_under enums file words) words) where
  loaded : (f : Fitting enums file words)
      → (r ≡ Ok (rows_loaded (length (rows_in f.fits)) (length f.fits.tree.names) (count (shared_of f.fits.tree.objects)) (length file - length (short_file f.fits.tree)))) × (left ≡ table (shape_of columns) (rows_in f.fits) words)
  loaded f =
      (answers ∙ loads f, leaves ∙ table_in_lem f columns)

  refused_is : {m q : ℕ} → load_under enums file words ≡ refusal m q → r ≡ Err (refusal_at m q)
  refused_is e = answers ∙ ap (answer_of file) e

  only : Ends enums file words → IsLoaded r → Fitting enums file words
  only (fits f) a = f
  only (refuses es l b m q e i) a = absurd (rw (refused_is e) at a)
  only (bad_list i b n e) a = absurd (rw (refused_is e) at a)

  refused_as : Ends enums file words → (Fitting enums file words → ⊥)
      → (number : ℕ) × (place : ℕ) × (r ≡ Err (refusal_at number place)) × (left ≡ replicate words 0)
  refused_as (fits f) none = absurd (none f)
  refused_as (refuses es l b m q e i) none = (m, q, refused_is e, leaves ∙ cleared_in enums file words m q e columns)
  refused_as (bad_list i b n e) none = (32, i, refused_is e, leaves ∙ cleared_in enums file words 32 i e columns)

  list_first : Ends enums file words → Unlawful enums → (place : ℕ) × (r ≡ Err (refusal_at 32 place)) × FirstBad enums place
  list_first (fits f) none = absurd (none f.es f.lawful f.listed)
  list_first (refuses es l b m q e i) none = absurd (none es l b)
  list_first (bad_list i b n e) none = (i, refused_is e, b)

  placed : Ends enums file words → (es : List EnumEntry) → Enums es → enums ≡ write_enums es → (number place : ℕ) → r ≡ Err (refusal_at number place) → Placed file number place
  placed (fits f) es w b number place e =
      let l = (loaded f).0 in
      differ cc
  placed (refuses fs v c m q g i) es w b number place e =
      let h : r ≡ Err (refusal_at m q) = refused_is g in
      let z : refusal_at number place ≡ refusal_at m q = cc in
      let e₁ : number ≡ m = ap (λ (x : Refusal). x.number) z in
      let e₂ : place ≡ q = ap (λ (x : Refusal). x.place) z in
      rw (e₁, e₂) i
  placed (bad_list i bad none g) es w b number place e = absurd (none es w b)

  skipped : Ends enums file words → (used readers shared padding : ℕ) → r ≡ Ok (rows_loaded used readers shared padding) → TableSkips (shape_of columns) (room_of words) left used
  skipped (refuses es l b m q g i) used readers shared padding e =
      let h : r ≡ Err (refusal_at m q) = refused_is g in
      differ cc
  skipped (bad_list i b n g) used readers shared padding e =
      let h : r ≡ Err (refusal_at 32 i) = refused_is g in
      differ cc
  skipped (fits f) used readers shared padding e =
      let l = loaded f in
      let z : rows_loaded (length (rows_in f.fits)) (length f.fits.tree.names) (count (shared_of f.fits.tree.objects)) (length file - length (short_file f.fits.tree)) ≡ rows_loaded used readers shared padding = cc in
      let k : length (rows_in f.fits) ≡ used = ap (λ (x : load_code.Loaded). x.rows) z in
      rw k at (table-skips f columns l.1)

  rooted : Ends enums file words → (used readers shared padding : ℕ) → r ≡ Ok (rows_loaded used readers shared padding) → TableRoots (shape_of columns) (room_of words) left used (suc shared)
  rooted (refuses es l b m q g i) used readers shared padding e =
      let h : r ≡ Err (refusal_at m q) = refused_is g in
      differ cc
  rooted (bad_list i b n g) used readers shared padding e =
      let h : r ≡ Err (refusal_at 32 i) = refused_is g in
      differ cc
  rooted (fits f) used readers shared padding e =
      let l = loaded f in
      let z : rows_loaded (length (rows_in f.fits)) (length f.fits.tree.names) (count (shared_of f.fits.tree.objects)) (length file - length (short_file f.fits.tree)) ≡ rows_loaded used readers shared padding = cc in
      let k : length (rows_in f.fits) ≡ used = ap (λ (x : load_code.Loaded). x.rows) z in
      let m : count (shared_of f.fits.tree.objects) ≡ shared = ap (λ (x : load_code.Loaded). x.shared) z in
      rw (k, m) at (table-roots f columns l.1)

  pub load_exact : Loads (shape_of columns) enums file words left r
  load_exact =
      let e = ends enums file words bytes small in
      record { accepts = (only e, λ f. rw (loaded f).0 tt); rows = loaded; refuses = refused_as e; list = list_first e; skips = skipped e; roots = rooted e; inside = placed e }

-- ---- Rewriting

-- a load that refuses is handed on
pub handed_on : (enums file : List ℕ) (words out n p : ℕ) → load_under enums file words ≡ refusal n p → rewrite_under enums file words out ≡ output.refusal n p
unfolding load_under to_load rewrite_under by_load
handed_on enums file words out n p e = go (file_under enums file (room_of words)) e where
  go : (x : Answer reading.Loaded) → to_load x ≡ refusal n p → by_load x out ≡ output.refusal n p
  go (refused m q) e =
      let a : m ≡ n = cc in
      let b : q ≡ p = cc in
      rw (a, b)
  go (read a next) e = differ cc

-- the shortest bytes of the tree that fits
new_file : {enums file : List ℕ} {words : ℕ} (f : Fitting enums file words) → Written f (short_file f.fits.tree)
new_file f = record { shortest = least f; again = (again f, refl); stays = stays f }

module _ (enums file : List ℕ) (words : ℕ) (out : List ℕ) {left end : List ℕ} {r : Result ℕ Refusal} (bytes : Bytes enums) (small : Small file)
    (answers : r ≡ contract.answer_of (rewrite_under enums file words (length out)))
    (writes : end ≡ output_of (rewrite_under enums file words (length out)) out)
    (leaves : left ≡ words_of (rewrite_under enums file words (length out)) (table_of (load_under enums file words) words)) where
  rewritten : (f : Fitting enums file words) → length (short_file f.fits.tree) ≤ length out
      → (r ≡ Ok (length (short_file f.fits.tree))) × (end ≡ short_file f.fits.tree ++ drop (length (short_file f.fits.tree)) out) × (left ≡ table by_rows (rows_in f.fits) words)
  unfolding fitted output_of words_of
  rewritten f h =
      let is = rewrite_is f (length out) in
      let t : leb (length (short_file f.fits.tree)) (length out) ≡ true = le-leb (length (short_file f.fits.tree)) (length out) h in
      (answers ∙ rw (is, t), writes ∙ rw (is, t), leaves ∙ rw (is, t) (table_is f))

  too_long : (f : Fitting enums file words) → length out < length (short_file f.fits.tree)
      → (r ≡ Err (refusal_at 21 (length (short_file f.fits.tree)))) × (end ≡ out) × (left ≡ replicate words 0)
  unfolding fitted output_of words_of
  too_long f h =
      let is = rewrite_is f (length out) in
      let t : leb (length (short_file f.fits.tree)) (length out) ≡ false = lt-leb (length (short_file f.fits.tree)) (length out) h in
      let n : length (table_of (load_under enums file words) words) ≡ words = table-length enums file words small in
      (answers ∙ rw (is, t), writes ∙ rw (is, t), leaves ∙ rw (is, t, n))

  handed : (m q : ℕ) → load_under enums file words ≡ refusal m q → (r ≡ Err (refusal_at m q)) × (end ≡ out) × (left ≡ replicate words 0)
  unfolding output_of words_of
  handed m q e =
      let h = handed_on enums file words (length out) m q e in
      let n : length (table_of (load_under enums file words) words) ≡ words = table-length enums file words small in
      (answers ∙ rw h, writes ∙ rw h, leaves ∙ rw (h, n))

  not_rewritten : Ends enums file words → (Fitting enums file words → ⊥)
      → (number : ℕ) × (place : ℕ) × (r ≡ Err (refusal_at number place)) × (end ≡ out) × (left ≡ replicate words 0)
  not_rewritten (fits f) none = absurd (none f)
  not_rewritten (refuses es l b m q e i) none =
      let h = handed m q e in
      (m, q, h.0, h.1, h.2)
  not_rewritten (bad_list i b n e) none =
      let h = handed 32 i e in
      (32, i, h.0, h.1, h.2)

  rewrite_list : Ends enums file words → Unlawful enums → (place : ℕ) × (r ≡ Err (refusal_at 32 place)) × FirstBad enums place
  rewrite_list (fits f) none = absurd (none f.es f.lawful f.listed)
  rewrite_list (refuses es l b m q e i) none = absurd (none es l b)
  rewrite_list (bad_list i b n e) none = (i, (handed 32 i e).0, b)

  abbrev Rewrite-placed : (number place : ℕ) → Type 0
  Rewrite-placed number place = (LoadNumber number ⊎ (number ≡ 21)) × (place ≤ length file)

  same_refusal : {m q number place : ℕ} → r ≡ Err (refusal_at m q) → r ≡ Err (refusal_at number place) → Rewrite-placed m q → Rewrite-placed number place
  same_refusal {m} {q} {number} {place} e g i =
      let z : refusal_at number place ≡ refusal_at m q = cc in
      let e₁ : number ≡ m = ap (λ (x : Refusal). x.number) z in
      let e₂ : place ≡ q = ap (λ (x : Refusal). x.place) z in
      rw (e₁, e₂) i

  rewrite_placed : Ends enums file words → (es : List EnumEntry) → Enums es → enums ≡ write_enums es → (number place : ℕ) → r ≡ Err (refusal_at number place) → Rewrite-placed number place
  rewrite_placed (refuses fs v c m q g i) es w b number place e = same_refusal (handed m q g).0 e (inl i.0, i.1)
  rewrite_placed (bad_list i bad none g) es w b number place e = absurd (none es w b)
  rewrite_placed (fits f) es w b number place e = go (leb (length (short_file f.fits.tree)) (length out)) refl where
    go : (t : Bool) → leb (length (short_file f.fits.tree)) (length out) ≡ t → Rewrite-placed number place
    go true t =
        let l = (rewritten f (leb-true _ _ t)).0 in
        differ cc
    go false t = same_refusal (too_long f (leb-false _ _ t)).0 e (inr refl, (least f file f.fits.lays).no_longer)

  begins : Ends enums file words → (n : ℕ) → r ≡ Ok n → (f : Fitting enums file words) × (n ≤ length end) × Written f (take n end)
  begins (refuses es l b m q g i) n e =
      let h = (handed m q g).0 in
      differ cc
  begins (bad_list i b u g) n e =
      let h = (handed 32 i g).0 in
      differ cc
  begins (fits f) n e = go (leb (length (short_file f.fits.tree)) (length out)) refl where
    go : (t : Bool) → leb (length (short_file f.fits.tree)) (length out) ≡ t → (f : Fitting enums file words) × (n ≤ length end) × Written f (take n end)
    go true t =
        let new = short_file f.fits.tree in
        let l = rewritten f (leb-true _ _ t) in
        let k : n ≡ length new = cc in
        let p : take n end ≡ new = rw (k, l.1) (take-append_seam new (drop (length new) out)) in
        (f, omega (arith, k, ap length l.1, length-append new (drop (length new) out)), rw p (new_file f))
    go false t =
        let l = (too_long f (leb-false _ _ t)).0 in
        differ cc

  rewrite_skipped : (n : ℕ) → r ≡ Ok n → (f : Fitting enums file words) → TableSkips by_rows (room_of words) left (length (rows_in f.fits))
  rewrite_skipped n e f = go (leb (length (short_file f.fits.tree)) (length out)) refl where
    go : (t : Bool) → leb (length (short_file f.fits.tree)) (length out) ≡ t → TableSkips by_rows (room_of words) left (length (rows_in f.fits))
    go true t = table-skips f false (rewritten f (leb-true _ _ t)).2
    go false t =
        let l = (too_long f (leb-false _ _ t)).0 in
        differ cc

  rewrite_rooted : (n : ℕ) → r ≡ Ok n → (f : Fitting enums file words) → TableRoots by_rows (room_of words) left (length (rows_in f.fits)) (suc (count (shared_of f.fits.tree.objects)))
  rewrite_rooted n e f = go (leb (length (short_file f.fits.tree)) (length out)) refl where
    go : (t : Bool) → leb (length (short_file f.fits.tree)) (length out) ≡ t → TableRoots by_rows (room_of words) left (length (rows_in f.fits)) (suc (count (shared_of f.fits.tree.objects)))
    go true t = table-roots f false (rewritten f (leb-true _ _ t)).2
    go false t =
        let l = (too_long f (leb-false _ _ t)).0 in
        differ cc

  pub rewrite_exact : Rewrites enums file words left out end r
  rewrite_exact =
      let e = ends enums file words bytes small in
      record { rewrites = rewritten; too_small = too_long; refuses = not_rewritten e; list = rewrite_list e; inside = rewrite_placed e; skips = rewrite_skipped; roots = rewrite_rooted; written = begins e }

-- ---- A file that is rewritten, and then loaded or rewritten again

module _ {enums file : List ℕ} {words : ℕ} {left out end : List ℕ} {r : Result ℕ Refusal} (x : Rewrites enums file words left out end r) where
  -- a first rewrite that is refused is none of a tree that fits
  first_refused : {number place : ℕ} → r ≡ Err (refusal_at number place) → (f : Fitting enums file words) → length (short_file f.fits.tree) ≤ length out → ⊥
  first_refused e f h =
      let l = (x.rewrites f h).0 in
      differ cc

  -- what the first rewrite wrote
  first_wrote : {n : ℕ} → r ≡ Ok n → (f : Fitting enums file words) → length (short_file f.fits.tree) ≤ length out → take n end ≡ short_file f.fits.tree
  first_wrote {n} e f h =
      let l = x.rewrites f h in
      let k : n ≡ length (short_file f.fits.tree) = cc in
      rw (k, l.1) (take-append_seam (short_file f.fits.tree) (drop (length (short_file f.fits.tree)) out))

  pub not_loaded_again : {number place : ℕ} {left₂ : List ℕ} {r₂ : Loading} → r ≡ Err (refusal_at number place) → LoadsAgain enums file words left₂ (length out) r₂
  not_loaded_again e = record { reads = λ f h. absurd (first_refused e f h) }

  pub loaded_again : {n : ℕ} {left₂ : List ℕ} {r₂ : Loading} → r ≡ Ok n → length left ≡ words → Loads by_rows enums (take n end) (length left) left₂ r₂ → LoadsAgain enums file words left₂ (length out) r₂
  loaded_again {n} {left₂} {r₂} e l y = record {
    reads = λ f h.
        let g = again f in
        let p = first_wrote e f h in
        let z : Loads by_rows enums (short_file f.fits.tree) words left₂ r₂ = rw (l, p) at y in
        let a = z.rows g in
        let none : length (short_file f.fits.tree) - length (short_file g.fits.tree) ≡ 0 = omega arith in
        (g, refl, rw none at a.0, a.1);
  }

  pub not_rewritten_again : {number place : ℕ} {second end₂ : List ℕ} {r₂ : Result ℕ Refusal} → r ≡ Err (refusal_at number place) → RewritesTwice enums file words (length out) second end₂ r₂
  not_rewritten_again e = record { same = λ f h k. absurd (first_refused e f h); same_refusal = λ f h k. absurd (first_refused e f h) }

  pub rewritten_again : {n : ℕ} {left₂ second end₂ : List ℕ} {r₂ : Result ℕ Refusal} → r ≡ Ok n → length left ≡ words → Rewrites enums (take n end) (length left) left₂ second end₂ r₂ → RewritesTwice enums file words (length out) second end₂ r₂
  rewritten_again {n} {left₂} {second} {end₂} {r₂} e l y =
      let z : (f : Fitting enums file words) → length (short_file f.fits.tree) ≤ length out → Rewrites enums (short_file f.fits.tree) words left₂ second end₂ r₂
      = λ f h. let p = first_wrote e f h in rw (l, p) at y in
      record {
        same = λ f h k.
            let a = (z f h).rewrites (again f) k in
            (a.0, a.1);
        same_refusal = λ f h k.
            let a = (z f h).too_small (again f) k in
            (a.0, a.1);
      }

-- From the contracts of the entries to what is demanded of them. Assumes nothing.
use Rattle.std.specs.Prelude.{Err, Ok, Result}
use mathlib.Core.Path.{◌≡◌, refl, sym, ap, ◌∙◌}
use mathlib.Core.Bool.{Bool, true, false}
use mathlib.Core.List.{List, ◌++◌}
use mathlib.Core.Logic.{◌⊎◌, inl, inr}
use Prim.Native.Nat.{ℕ, ◌+◌, ◌*◌, ◌-◌, ◌%◌, ◌<◌, ◌≤◌}
use native.Mathlib.Omega.{arith}
use lib.Dec.{leb}
use lib.ListN.{length, drop, replicate}
use borrow.Author.Tests.{leb-true, leb-false}
use Rattle.laws.specs.Small.{differ}
use Rattle.layout.specs.Tree.{count}
use Rattle.layout.specs.File.{shared_of}
use Rattle.layout.specs.EnumList.{EnumEntry, write_enums, Enums, FirstBad, Unlawful}
use Rattle.layout.specs.Refusals.{LoadNumber}
use Rattle.layout.specs.Table.{room_of, table, shape_of, by_rows}
use Rattle.layout.specs.Shortest.{short_file}
use Rattle.enums.specs.Lists.{Bytes}
use Rattle.reading.specs.Reads.{Small}
use Rattle.reading.specs.File.{Load, refusal, accepted, table_of, table_in}
use Rattle.reading.specs.Output as rewritten
use Rattle.reading.specs.Output.{output_of}
use Rattle.places.specs.Padding.{file_padding}
use Rattle.shortest.specs.Rewrite.{words_of}
use Rattle.load.specs.Under.{load_under}
use Rattle.rewrite.specs.Whole.{rewrite_under}
use Rattle.rewrite.specs.Contract as contract
use Rattle.builder.specs.Packed.{code, packed, rewrite_packed}
use Rattle.builder.specs.Places.{load_exactly, rewrite_exactly}
use Rattle.builder.specs.Told.{load_told}
use Rattle.layout.specs.Fits.{Fitting, rows_in}
use Rattle.theorems.specs.Rewriting.{Rewrites}
use Rattle.theorems.specs.Fitted.{rows_are, rows_room, padding_is, least}
use Rattle.theorems.specs.Laws.{Ends, fits, refuses, bad_list, ends, table_in_lem, cleared_in, handed_on, rewrite_exact}
use Rattle.entry_theorems.specs.Told.{ListTold, TellsLoad, Fills, TellsRewrite}
use Rattle.entry_theorems.specs.Refusals.{TellsRefusal, TellsRewriteRefusal}
use Rattle.answers.specs.declared.Refusal.{Refusal}

-- a load's numbers are from 1 on, and none is 32
some_number : {number : ℕ} → LoadNumber number → (1 ≤ number) × (number ≡ 32 → ⊥)
some_number (inl i) = (i.0, λ e. omega (arith, i.1))
some_number (inr (inl i)) = (omega (arith, i.0), λ e. omega (arith, i.1))
some_number (inr (inr (inl e))) = (omega arith, λ q. omega arith)
some_number (inr (inr (inr i))) = (omega (arith, i.0), λ e. omega (arith, i.0))

-- ---- Loading

module _ (enums file : List ℕ) (words : ℕ) (bytes : Bytes enums) (small : Small file) {r : ℕ} (answers : r ≡ packed (load_under enums file words)) where
  rows_told : (f : Fitting enums file words) → r ≡ length (rows_in f.fits)
  unfolding packed
  rows_told f = answers ∙ rw (rows_are f)

  refused_told : {number place : ℕ} → load_under enums file words ≡ refusal number place → LoadNumber number → r ≡ number * 4294967296 + place
  refused_told {number} {place} e i = answers ∙ load_exactly enums file words number place (some_number i).1 e

  list_told : {place : ℕ} → load_under enums file words ≡ refusal 32 place → r ≡ 32 * 4294967296 + place % 4294967296
  unfolding packed code
  list_told e = answers ∙ rw e

  below : (f : Fitting enums file words) → r < 4294967296
  unfolding room_of
  below f = omega (arith, rows_told f, rows_room f)

  only : Ends enums file words → r < 4294967296 → Fitting enums file words
  only (fits f) h = f
  only (refuses es l b n p e i) h = absurd (omega (arith, refused_told e i.0, (some_number i.0).0))
  only (bad_list p b u e) h = absurd (omega (arith, list_told e))

  exactly : Ends enums file words → (es : List EnumEntry) → Enums es → enums ≡ write_enums es → (number place : ℕ) → load_under enums file words ≡ refusal number place → r ≡ number * 4294967296 + place
  exactly (fits f) es w b number place e =
      let z = rows_are f in
      differ cc
  exactly (refuses fs v c n p q i) es w b number place e =
      let x : n ≡ number = cc in
      refused_told e (rw x at i.0)
  exactly (bad_list p bad u q) es w b number place e = absurd (u es w b)

  listed : Ends enums file words → ListTold enums r
  listed (fits f) u = absurd (u f.es f.lawful f.listed)
  listed (refuses es l b n p e i) u = absurd (u es l b)
  listed (bad_list p bad v e) u = (p, list_told e, bad)

  pub load_told_lem : TellsLoad enums file words r
  load_told_lem =
      let e = ends enums file words bytes small in
      record { accepts = (only e, below); rows = rows_told; list = listed e }

  pub refusal-told : TellsRefusal enums file words r
  refusal-told = exactly (ends enums file words bytes small)

module _ (enums file : List ℕ) (words : ℕ) (columns : Bool) (bytes : Bytes enums) (small : Small file) {r readers shared padding : ℕ} {left : List ℕ}
    (answers : ◌≡◌ {A = ℕ × ℕ × ℕ × ℕ} (r, readers, shared, padding) (load_told file (load_under enums file words)))
    (leaves : left ≡ table_in (shape_of columns) (load_under enums file words) words) where
  pub number-told : r ≡ packed (load_under enums file words)
  unfolding load_told
  number-told = ap (λ (t : ℕ × ℕ × ℕ × ℕ). t.0) answers ∙ go (load_under enums file words) where
    go : (x : Load) → (load_told file x).0 ≡ packed x
    go (refusal n p) = refl
    go (accepted rows m s) = refl

  filled : (f : Fitting enums file words)
      → (readers ≡ length f.fits.tree.names) × (shared ≡ count (shared_of f.fits.tree.objects)) × (padding ≡ length file - length (short_file f.fits.tree)) × (left ≡ table (shape_of columns) (rows_in f.fits) words)
  unfolding load_told
  filled f =
      let e = rw (rows_are f) at answers in
      let p : padding ≡ file_padding file (length f.fits.tree.names) (rows_in f.fits) = ap (λ (t : ℕ × ℕ × ℕ × ℕ). t.3) e in
      (ap (λ (t : ℕ × ℕ × ℕ × ℕ). t.1) e, ap (λ (t : ℕ × ℕ × ℕ × ℕ). t.2) e, omega (arith, p, padding_is f), leaves ∙ table_in_lem f columns)

  cleared : {number place : ℕ} → load_under enums file words ≡ refusal number place → (readers ≡ 0) × (shared ≡ 0) × (padding ≡ 0) × (left ≡ replicate words 0)
  unfolding load_told
  cleared {number} {place} q =
      let e = rw q at answers in
      (ap (λ (t : ℕ × ℕ × ℕ × ℕ). t.1) e, ap (λ (t : ℕ × ℕ × ℕ × ℕ). t.2) e, ap (λ (t : ℕ × ℕ × ℕ × ℕ). t.3) e, leaves ∙ cleared_in enums file words number place q columns)

  by_end : Ends enums file words → (Fitting enums file words → ⊥) → (readers ≡ 0) × (shared ≡ 0) × (padding ≡ 0) × (left ≡ replicate words 0)
  by_end (fits f) none = absurd (none f)
  by_end (refuses es l b n p e i) none = cleared e
  by_end (bad_list p b u e) none = cleared e

  pub load_fills : Fills (shape_of columns) enums file words left readers shared padding
  load_fills = record { fills = filled; clears = by_end (ends enums file words bytes small) }

-- ---- Rewriting

-- the one number of a rewrite's answer
abbrev tells : Result ℕ Refusal → ℕ
tells (Err e) = code e.number e.place
tells (Ok n) = n

tells-packed : (x : rewritten.Rewritten) → rewrite_packed x ≡ tells (contract.answer_of x)
unfolding rewrite_packed
tells-packed (rewritten.refusal n p) = refl
tells-packed (rewritten.written bytes) = refl

module _ (enums file : List ℕ) (words : ℕ) (out : List ℕ) (bytes : Bytes enums) (small : Small file) {r : ℕ} {left end : List ℕ}
    (answers : r ≡ rewrite_packed (rewrite_under enums file words (length out)))
    (writes : end ≡ output_of (rewrite_under enums file words (length out)) out)
    (leaves : left ≡ words_of (rewrite_under enums file words (length out)) (table_of (load_under enums file words) words)) where
  abbrev answer : Result ℕ Refusal
  answer = contract.answer_of (rewrite_under enums file words (length out))

  exact : Rewrites enums file words left out end answer
  exact = rewrite_exact enums file words out bytes small refl writes leaves

  number_is : r ≡ tells answer
  number_is = answers ∙ tells-packed (rewrite_under enums file words (length out))

  bound : (f : Fitting enums file words) → length (short_file f.fits.tree) < 4294967296
  bound f = omega (arith, (least f file f.fits.lays).no_longer, f.fits.lays.short)

  told : (f : Fitting enums file words) → length (short_file f.fits.tree) ≤ length out
      → (r ≡ length (short_file f.fits.tree)) × (end ≡ short_file f.fits.tree ++ drop (length (short_file f.fits.tree)) out) × (left ≡ table by_rows (rows_in f.fits) words)
  told f h =
      let x = exact.rewrites f h in
      (number_is ∙ ap tells x.0, x.1, x.2)

  too_long : (f : Fitting enums file words) → length out < length (short_file f.fits.tree)
      → (r ≡ 21 * 4294967296 + length (short_file f.fits.tree)) × (end ≡ out) × (left ≡ replicate words 0)
  unfolding code
  too_long f h =
      let x = exact.too_small f h in
      let e : r ≡ 21 * 4294967296 + length (short_file f.fits.tree) % 4294967296 = number_is ∙ ap tells x.0 in
      (omega (arith, e, bound f), x.1, x.2)

  not_rewritten : {number place : ℕ} → load_under enums file words ≡ refusal number place → r ≡ number * 4294967296 + place % 4294967296
  unfolding rewrite_packed code
  not_rewritten {number} {place} e = answers ∙ rw (handed_on enums file words (length out) number place e)

  some_tree : Ends enums file words → r < 4294967296 → (f : Fitting enums file words) × (length (short_file f.fits.tree) ≤ length out)
  some_tree (refuses es l b n p e i) h = absurd (omega (arith, not_rewritten e, (some_number i.0).0))
  some_tree (bad_list p b u e) h = absurd (omega (arith, not_rewritten e))
  some_tree (fits f) h = go (leb (length (short_file f.fits.tree)) (length out)) refl where
    go : (t : Bool) → leb (length (short_file f.fits.tree)) (length out) ≡ t → (f : Fitting enums file words) × (length (short_file f.fits.tree) ≤ length out)
    go true t = (f, leb-true _ _ t)
    go false t = absurd (omega (arith, (too_long f (leb-false _ _ t)).0))

  not_32 : {number : ℕ} → LoadNumber number ⊎ (number ≡ 21) → number ≡ 32 → ⊥
  not_32 (inl i) e = (some_number i).1 e
  not_32 (inr q) e = omega arith

  exactly_told : (es : List EnumEntry) → Enums es → enums ≡ write_enums es → (number place : ℕ) → rewrite_under enums file words (length out) ≡ rewritten.refusal number place → r ≡ number * 4294967296 + place
  exactly_told es w b number place e =
      answers ∙ rewrite_exactly enums file words number place (not_32 (exact.inside es w b number place (ap contract.answer_of e)).0) small (length out) e

  pub rewrite_refusal-told : TellsRewriteRefusal enums file words (length out) r
  rewrite_refusal-told = exactly_told

  first_told : ListTold enums r
  unfolding code
  first_told u =
      let x = exact.list u in
      (x.0, number_is ∙ ap tells x.1, x.2)

  pub rewrite_told : TellsRewrite enums file words left out end r
  rewrite_told = record {
    accepts = (some_tree (ends enums file words bytes small), λ x. omega (arith, (told x.0 x.1).0, bound x.0));
    rewrites = told;
    too_small = too_long;
    unchanged = λ none. let x = exact.refuses none in (x.3, x.4);
    list = first_told;
  }

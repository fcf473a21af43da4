-- From the contracts of `load_in` and `rewrite` to what is demanded of the padding. Assumes nothing.
use Rattle.std.specs.Prelude.{Err, Ok, Result}
use mathlib.Core.Path.{◌≡◌, refl, ap, ◌∙◌}
use mathlib.Core.Bool.{Bool, true, false}
use mathlib.Core.List.{List}
use mathlib.Core.Logic.{◌↔◌}
use Prim.Native.Nat.{ℕ, ◌-◌, ◌≤◌}
use native.Mathlib.Omega.{arith}
use lib.Dec.{leb}
use lib.ListN.{length}
use borrow.Author.Tests.{leb-true, leb-false}
use Rattle.laws.specs.Small.{differ}
use Rattle.layout.specs.Tree.{count}
use Rattle.layout.specs.File.{shared_of}
use Rattle.layout.specs.Shortest.{short_file}
use Rattle.reading.specs.Reads.{Small}
use Rattle.reading.specs.File.{refusal}
use Rattle.enums.specs.Lists.{Bytes}
use Rattle.load.specs.Under.{load_under}
use Rattle.rewrite.specs.Whole.{rewrite_under}
use Rattle.load.specs.Loads.{Loading}
use Rattle.load.specs.Loads.{answer_of}
use Rattle.rewrite.specs.Contract as contract
use Rattle.theorems.specs.Rewriting.{Rewrites}
use Rattle.theorems.specs.Padding.{Shortest}
use Rattle.theorems.specs.Fitted.{least, same_tree}
use Rattle.layout.specs.Fits.{Fitting, rows_in}
use Rattle.theorems.specs.Laws.{Ends, fits, refuses, bad_list, ends, loads, handed_on}
use Rattle.load.specs.Loads.{loaded}
use Rattle.load.specs.declared.Loaded as load_code
use Rattle.answers.specs.Refusals.{refusal as refusal_at}
use Rattle.answers.specs.declared.Refusal.{Refusal}

module _ (enums file : List ℕ) (words : ℕ) (bytes : Bytes enums) (small : Small file) {left out end : List ℕ} {l : Loading} {r : Result ℕ Refusal}
    (answers : l ≡ answer_of file (load_under enums file words)) (x : Rewrites enums file words left out end r)
    (rewrites : r ≡ contract.answer_of (rewrite_under enums file words (length out))) where
  -- the file was loaded: a file tree fits, and the padding is what its shortest bytes save
  record Told (padding : ℕ) : Type 0 where
    fitting : Fitting enums file words
    is : padding ≡ length file - length (short_file fitting.fits.tree)
    no_longer : length (short_file fitting.fits.tree) ≤ length file

  told : {rows readers shared padding : ℕ} → l ≡ Ok (loaded rows readers shared padding) → Told padding
  told {rows} {readers} {shared} {padding} e = go (ends enums file words bytes small) where
    go : Ends enums file words → Told padding
    go (refuses es w b m q g i) =
        let a : l ≡ Err (refusal_at m q) = answers ∙ ap (answer_of file) g in
        differ cc
    go (bad_list i b n g) =
        let a : l ≡ Err (refusal_at 32 i) = answers ∙ ap (answer_of file) g in
        differ cc
    go (fits f) =
        let a : l ≡ Ok (loaded (length (rows_in f.fits)) (length f.fits.tree.names) (count (shared_of f.fits.tree.objects)) (length file - length (short_file f.fits.tree))) = answers ∙ loads f in
        let z : loaded rows readers shared padding ≡ loaded (length (rows_in f.fits)) (length f.fits.tree.names) (count (shared_of f.fits.tree.objects)) (length file - length (short_file f.fits.tree)) = cc in
        record { fitting = f; is = ap (λ (y : load_code.Loaded). y.padding) z; no_longer = (least f file f.fits.lays).no_longer }

  -- what the rewrite answers then
  by_room : {padding : ℕ} (t : Told padding) {P : Type 0} → (r ≡ Ok (length (short_file t.fitting.fits.tree)) → P) → (r ≡ Err (refusal_at 21 (length (short_file t.fitting.fits.tree))) → P) → P
  by_room t {P} fitted short = go (leb (length (short_file t.fitting.fits.tree)) (length out)) refl where
    go : (b : Bool) → leb (length (short_file t.fitting.fits.tree)) (length out) ≡ b → P
    go true q = fitted (x.rewrites t.fitting (leb-true _ _ q)).0
    go false q = short (x.too_small t.fitting (leb-false _ _ q)).0

  pub total : (rows readers shared padding n : ℕ) → l ≡ Ok (loaded rows readers shared padding) → r ≡ Ok n → (n ≤ length file) × (padding ≡ length file - n)
  total rows readers shared padding n e w =
      let t = told e in
      by_room t (λ q. let k : n ≡ length (short_file t.fitting.fits.tree) = cc in (omega (arith, t.no_longer, k), omega (arith, t.is, k))) (λ q. differ cc)

  pub needed : (rows readers shared padding number place : ℕ) → l ≡ Ok (loaded rows readers shared padding) → r ≡ Err (refusal_at number place)
      → (number ≡ 21) × (place ≤ length file) × (padding ≡ length file - place)
  needed rows readers shared padding number place e w =
      let t = told e in
      by_room t (λ q. differ cc) (λ q. let z : refusal_at number place ≡ refusal_at 21 (length (short_file t.fitting.fits.tree)) = cc in
      let k : place ≡ length (short_file t.fitting.fits.tree) = ap (λ (y : Refusal). y.place) z in
      let n : number ≡ 21 = ap (λ (y : Refusal). y.number) z in
      (n, omega (arith, t.no_longer, k), omega (arith, t.is, k)))

  pub none : (rows readers shared padding : ℕ) → l ≡ Ok (loaded rows readers shared padding) → (padding ≡ 0) ↔ Shortest enums file words
  none rows readers shared padding e =
      let t = told e in (
        λ z f bs w. let same = same_tree f t.fitting in
            omega (arith, t.is, t.no_longer, ap (λ y. length (short_file y)) same, (least f bs w).no_longer),
        λ s. omega (arith, t.is, s t.fitting (short_file t.fitting.fits.tree) (least t.fitting file t.fitting.fits.lays).form),
      )

  pub refused : (number place : ℕ) → l ≡ Err (refusal_at number place) → r ≡ Err (refusal_at number place)
  refused number place e = go (ends enums file words bytes small) where
    handed : (m q : ℕ) → load_under enums file words ≡ refusal m q → r ≡ Err (refusal_at number place)
    handed m q g =
        let a : l ≡ Err (refusal_at m q) = answers ∙ ap (answer_of file) g in
        let z : refusal_at m q ≡ refusal_at number place = cc in
        let e₁ : m ≡ number = ap (λ (y : Refusal). y.number) z in
        let e₂ : q ≡ place = ap (λ (y : Refusal). y.place) z in
        rewrites ∙ ap contract.answer_of (handed_on enums file words (length out) m q g) ∙ rw (e₁, e₂)

    go : Ends enums file words → r ≡ Err (refusal_at number place)
    go (fits f) =
        let a : l ≡ Ok (loaded (length (rows_in f.fits)) (length f.fits.tree.names) (count (shared_of f.fits.tree.objects)) (length file - length (short_file f.fits.tree))) = answers ∙ loads f in
        differ cc
    go (refuses es w b m q g i) = handed m q g
    go (bad_list i b n g) = handed 32 i g

-- The figures of a file of a pack under a lent list of enum types, by what loading it answers and leaves. Assumes nothing.
use Rattle.std.specs.Prelude.{◌≡◌, Bool, eqb, nat_eq, take}
use Rattle.std.proofs.Math.Path.{refl, ap}
use Rattle.std.proofs.Common.{sym, ◌∙◌, eq-eqb, ne_eqb, eqb-true}
use Rattle.std.proofs.lemmas.Bool.{eqb-false}
use Rattle.std.proofs.Math.Bool.{true, false, cond}
use mathlib.Core.List.{List, [], ◌∷◌, ◌++◌}
use Prim.Native.Nat.{ℕ, ◌+◌, ◌*◌, ◌-◌, ◌/◌, ◌≤◌, ◌^◌, min}
use native.Mathlib.Omega.{arith}
use Rattle.std.proofs.Math.ListN.{length, drop, replicate, length-append, length-replicate}
use Rattle.std.proofs.Math.Seq.{drop-append_seam}
use Rattle.laws.specs.Small.{differ}
use Rattle.layout.specs.Text.{ascii}
use Rattle.layout.specs.Rows.{flat, width}
use Rattle.layout.specs.Table.{room_of}
use Rattle.reading.specs.Answer.{Answer, refused, read}
use Rattle.reading.specs.Reads.{Small}
use Rattle.reading.specs.Drafts.{bare}
use Rattle.reading.specs.References.{length-flat}
use Rattle.reading.specs.Same.{same}
use Rattle.reading.specs.File.{Loaded, file_at, to_load, table_of, table_in}
use Rattle.fill.specs.Fill.{wiped}
use Rattle.enums.specs.Judge.{Judgement, lawful, enums_at}
use Rattle.enums.specs.Judge.{refused as list-refused}
use Rattle.readers.specs.Judged.{judged_name, judges}
use Rattle.table.specs.Grids.{rows_grid}
use Rattle.std.specs.Prelude.{Ok, Err}
use Rattle.answers.specs.declared.Refusal.{Refusal}
use Rattle.load.specs.declared.Loaded as code
use Rattle.load.specs.Under.{under_list, file_under, load_under}
use Rattle.answers.specs.Refusals.{refusal as broken}
use Rattle.places.specs.Padding.{file_padding}
use Rattle.load.specs.Loads.{answer_of, loaded as as_loaded}
use Rattle.std.specs.List.{starts_with}
use Rattle.std.specs.Cmp.Lexicographic.{pointwise}
use Rattle.load_part.specs.Part.{opened, replicate-append}
use Rattle.pack_figures.specs.Figures.{Figure, files, loaded, text_bytes, image_bytes, refusals, rows, of_other, of_refusal, of_load, of_content}
use Rattle.pack_figures.specs.Counted.{by_rows, figures_are}
use Rattle.pack_figures.specs.Short.{refusal-below, load_below}
use Rattle.pack_counts.specs.Count.{rows_at, rows_stand}

-- ---- Over the list of enum types

module _ (enums content : List ℕ) (small : Small content) where
  pub opened_rows : (a : Loaded) (e : ℕ) → opened enums content ≡ read a e → (f : Figure) → of_load (read a e) f ≡ by_rows content (bare a.rows) f
  unfolding file_under under_list
  opened_rows a e q f = go (enums_at enums) q where
    go : (j : Judgement) → under_list j (λ es. file_at (judged_name es) content 65536) ≡ read a e → of_load (read a e) f ≡ by_rows content (bare a.rows) f
    go (list-refused n i) q = differ cc
    go (lawful es) q = figures_are es (judged_name es) (judges es) content 65536 small a e q f

  opened_below : (f : Figure) → of_load (opened enums content) f ≤ 2 ^ 49
  unfolding file_under under_list of_load
  opened_below f = go (enums_at enums) where
    go : (j : Judgement) → of_load (under_list j (λ es. file_at (judged_name es) content 65536)) f ≤ 2 ^ 49
    go (list-refused n i) = refusal-below n f
    go (lawful es) = load_below es (judged_name es) (judges es) content small (file_at (judged_name es) content 65536) refl f

  other_below : (f : Figure) → of_other f ≤ 1
  unfolding of_other
  other_below files = omega arith
  other_below loaded = omega arith
  other_below text_bytes = omega arith
  other_below image_bytes = omega arith
  other_below (refusals n) = omega arith
  other_below (rows k) = omega arith

  -- no figure of a file is large
  pub content-below : (f : Figure) → of_content (opened enums) content f ≤ 2 ^ 49
  unfolding of_content
  content-below f = go (same (take 3 content) (ascii "XNB")) where
    go : (t : Bool) → cond t (of_load (opened enums content) f) (of_other f) ≤ 2 ^ 49
    go true = opened_below f
    go false = let h = other_below f in omega arith

-- ---- The letters that a file starts with

either_way : (x y : ℕ) → eqb x y ≡ eqb y x
either_way x y = go (eqb y x) refl where
  go : (t : Bool) → eqb y x ≡ t → eqb x y ≡ t
  go true e = eq-eqb x y (sym (eqb-true y x e))
  go false e = ne_eqb x y (λ h. eqb-false y x e (sym h))

pointwise_same : (a b : List ℕ) → pointwise nat_eq a b ≡ same b a
unfolding same
pointwise_same [] [] = refl
pointwise_same [] (y ∷ b) = refl
pointwise_same (x ∷ a) [] = refl
pointwise_same (x ∷ a) (y ∷ b) = rw (either_way x y, pointwise_same a b)

-- the library's test of the first bytes
pub starts_so : (l : List ℕ) → starts_with nat_eq l (0x58 ∷ 0x4E ∷ 0x42 ∷ []) ≡ same (take 3 l) (ascii "XNB")
unfolding ascii
starts_so l = pointwise_same (0x58 ∷ 0x4E ∷ 0x42 ∷ []) (take 3 l)

-- a file by whether it starts with `XNB`
pub is_xnb : (opened : List ℕ → Answer Loaded) (content : List ℕ) → same (take 3 content) (ascii "XNB") ≡ true → (f : Figure) → of_load (opened content) f ≡ of_content opened content f
unfolding of_content
is_xnb opened content e f = rw e

pub no_xnb : (opened : List ℕ → Answer Loaded) (content : List ℕ) → same (take 3 content) (ascii "XNB") ≡ false → (f : Figure) → of_other f ≡ of_content opened content f
unfolding of_content
no_xnb opened content e f = rw e

-- ---- What loading answers and leaves

-- a table of zeros with room for 65,536 rows
pub record Clear (words : List ℕ) : Type 0 where
  pub room : 458752 ≤ length words
  pub zeros : words ≡ replicate (length words) 0

module _ (enums content entry : List ℕ) (clear : Clear entry) where
  whole : load_under enums content (length entry) ≡ to_load (opened enums content)
  unfolding load_under room_of
  whole = let z : min (length entry / width) 65536 ≡ 65536 = omega (arith, clear.room) in rw z

  -- a refusal: the words are zeros again
  refused_by : (x : Answer Loaded) {r : Refusal} {exit : List ℕ} → Err r ≡ answer_of content (to_load x) → exit ≡ table_of (to_load x) (length entry)
      → ((f : Figure) → of_refusal r.number f ≡ of_load x f) × (exit ≡ replicate (length entry) 0)
  unfolding to_load table_in of_load
  refused_by (refused m q) {r} e t = let z : r ≡ broken m q = cc in (λ f. rw z, t)
  refused_by (read a e) q t = differ cc

  pub refused_so : {r : Refusal} {exit : List ℕ} → Err r ≡ answer_of content (load_under enums content (length entry))
      → (entry ≡ replicate (length entry) 0 → exit ≡ table_of (load_under enums content (length entry)) (length entry))
      → ((f : Figure) → of_refusal r.number f ≡ of_load (opened enums content) f) × (exit ≡ replicate (length entry) 0)
  refused_so e t = refused_by (opened enums content) (rw whole at e) (rw whole at (t clear.zeros))

  -- rows: they stand at the start of the words, and clearing them leaves zeros
  loaded_by : Small content → (x : Answer Loaded) → opened enums content ≡ x → {told : code.Loaded} {exit : List ℕ} → length exit ≡ length entry
      → Ok told ≡ answer_of content (to_load x) → exit ≡ table_of (to_load x) (length entry)
      → ((f : Figure) → by_rows content (rows_at (rows_grid (length exit)) exit 0 told.rows) f ≡ of_load x f) × (wiped exit 0 (min (width * told.rows) (length exit)) ≡ replicate (length entry) 0)
  unfolding to_load table_in wiped
  loaded_by small (refused m q) o n e t = differ cc
  loaded_by small (read a p) o {told} {exit} n e t =
      let rs = bare a.rows in
      let w : told ≡ as_loaded (length rs) a.readers a.shared (file_padding content a.readers rs) = cc in
      let k = told.rows in
      let z : k ≡ length rs = rw w in
      let rest : List ℕ = replicate (length entry - width * length rs) 0 in
      let s : rows_at (rows_grid (length exit)) exit 0 k ≡ rs = rw (z, t) (rows_stand (length (flat rs ++ rest)) rs rest) in
      let l : length exit ≡ width * length rs + (length entry - width * length rs) = ap length t ∙ length-append (flat rs) rest ∙ omega (arith, length-flat rs, length-replicate {A = ℕ} (length entry - width * length rs) 0) in
      let m : min (width * k) (length exit) - 0 ≡ width * length rs = omega arith in
      let y : 0 + width * length rs ≡ length (flat rs) = omega (arith, length-flat rs) in
      let d : drop (0 + width * length rs) exit ≡ rest = rw (t, y) (drop-append_seam (flat rs) rest) in
      let q : width * length rs + (length entry - width * length rs) ≡ length entry = omega arith in
      (λ f. rw s (sym (opened_rows enums content small a p o f)), rw (m, d) (replicate-append (width * length rs) (length entry - width * length rs) ∙ rw q refl))

  pub loaded_so : Small content → {told : code.Loaded} {exit : List ℕ} → length exit ≡ length entry
      → Ok told ≡ answer_of content (load_under enums content (length entry))
      → (entry ≡ replicate (length entry) 0 → exit ≡ table_of (load_under enums content (length entry)) (length entry))
      → ((f : Figure) → by_rows content (rows_at (rows_grid (length exit)) exit 0 told.rows) f ≡ of_load (opened enums content) f) × (wiped exit 0 (min (width * told.rows) (length exit)) ≡ replicate (length entry) 0)
  loaded_so small n e t = loaded_by small (opened enums content) refl n (rw whole at e) (rw whole at (t clear.zeros))

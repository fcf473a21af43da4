-- One of some rows that stand in the words: what its words say, and its judgement. Assumes nothing.
use Rattle.std.specs.Prelude.{◌≡◌, refl, Bool, List, [], ◌∷◌, ◌++◌, ℕ, suc, ◌+◌, ◌*◌, ◌<◌, ◌≤◌, length, get_or, set, Option, Some, None}
use Rattle.std.proofs.Common.{ap, ◌∙◌, arith, length-append}
use Rattle.std.proofs.Math.Bool.{true, false}
use Rattle.std.proofs.lemmas.List.{get_or_at, set_at}
use borrow.Author.Tests.{eq-eqb, ne_eqb}
use Rattle.layout.specs.Rows.{Row, words, width}
use Rattle.layout.specs.Table.{shape_of}
use Rattle.reading.specs.Drafts.{Wants, nothing, resource}
use Rattle.reading.specs.Resource.{suits}
use Rattle.table.specs.declared.Grid.{Grid}
use Rattle.table.specs.Stores.{written_rows, Wide, rows_at, set-row}
use Rattle.table.specs.Grids.{cell_of}
use Rattle.walked.specs.Written.{marked}
use Rattle.resources.specs.Marked.{RowMarked}
use Rattle.resources.specs.Total.{fitted, row_settled}

-- rows and the rows after them are wide
pub wide_append : (a b : List (List ℕ)) → Wide a → Wide b → Wide (a ++ b)
unfolding Wide
wide_append [] b h k = k
wide_append (r ∷ a) b h k = (h.0, wide_append a b h.1 k)

-- the words with rows stored from the first on
abbrev pub stored : Grid → (w : List ℕ) → List (List ℕ) → List ℕ
stored g w rows = written_rows (shape_of g.columns) g.room w 0 rows

-- what a judgement answers, and the words without the row's mark or with it
abbrev pub cleared : Bool → (first : ℕ) (without with : List ℕ) → Option ℕ × List ℕ
cleared true first without with = (None, without)
cleared false first without with = (Some first, with)

module _ (g : Grid) (w : List ℕ) (long : width * g.room ≤ length w) where
  -- a row behind some others
  module _ (done : List (List ℕ)) (x : List ℕ) (more : List (List ℕ)) (wide : Wide (done ++ (x ∷ more))) (fits : length (done ++ (x ∷ more)) ≤ g.room) where
    -- its words
    pub word_at : (j : ℕ) → j < width → get_or (stored g w (done ++ (x ∷ more))) (cell_of g (length done) j) 0 ≡ get_or x j 0
    word_at j h =
        let l : length (done ++ (x ∷ more)) ≡ length done + suc (length more) = length-append done (x ∷ more) in
        let z : 0 + length done ≡ length done = omega arith in
        (rw z at (rows_at (shape_of g.columns) g.room w 0 (done ++ (x ∷ more)) (length done) j wide (omega arith) (omega arith) h long))
        ∙ ap (λ (r : List ℕ). get_or r j 0) (get_or_at done x more [] (length done) refl)

    -- a store into it
    pub set_word : (j v : ℕ) → j < width → set (stored g w (done ++ (x ∷ more))) (cell_of g (length done) j) v ≡ stored g w (done ++ (set x j v ∷ more))
    set_word j v h =
        let l : length (done ++ (x ∷ more)) ≡ length done + suc (length more) = length-append done (x ∷ more) in
        let z : 0 + length done ≡ length done = omega arith in
        (rw z at (set-row (shape_of g.columns) g.room w 0 (done ++ (x ∷ more)) (length done) j v wide (omega arith) (omega arith) h))
        ∙ rw (get_or_at done x more [] (length done) refl, set_at done x more (set x j v) (length done) refl)

  -- a draft behind some rows is judged, and becomes a row of 01
  module _ (shared : List ℕ) (done : List (List ℕ)) (r : Row) (more : List (List ℕ)) where
    abbrev draft : Wants → List ℕ
    draft wants = words (marked (record { row = r; wants = wants }))

    pub row_settled_lem : (wants : Wants) → RowMarked wants r.kind r.children → Wide (done ++ (draft wants ∷ more)) → length (done ++ (draft wants ∷ more)) ≤ g.room
        → row_settled g shared (stored g w (done ++ (draft wants ∷ more))) (length done)
        ≡ cleared (suits shared wants r.detail) r.first (stored g w (done ++ (words r ∷ more))) (stored g w (done ++ (draft wants ∷ more)))
    unfolding row_settled words suits
    row_settled_lem nothing m wide fits = rw (word_at done (draft nothing) more wide fits 0 (omega arith), ne_eqb r.kind 36 m)
    row_settled_lem (resource wanted) m wide fits =
        let x = draft (resource wanted) in
        rw (word_at done x more wide fits 0 (omega arith), word_at done x more wide fits 3 (omega arith), word_at done x more wide fits 5 (omega arith), eq-eqb r.kind 36 m.0)
        (go (suits shared (resource wanted) r.detail)) where
          go : (b : Bool) → fitted g b (stored g w (done ++ (draft (resource wanted) ∷ more))) (length done)
              ≡ cleared b r.first (stored g w (done ++ (words r ∷ more))) (stored g w (done ++ (draft (resource wanted) ∷ more)))
          go true = rw (m.1, set_word done (draft (resource wanted)) more wide fits 3 0 (omega arith))
          go false = rw (word_at done (draft (resource wanted)) more wide fits 1 (omega arith))

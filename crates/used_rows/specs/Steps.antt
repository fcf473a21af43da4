-- The steps of reading rows by their numbers. Assumes nothing.
use Rattle.std.specs.Prelude.{◌≡◌, List, ◌∷◌, ℕ, suc, ◌+◌, ◌-◌, ◌<◌, ◌≤◌, drop, get_or}
use Rattle.std.proofs.Math.Path.{sym, ap}
use Rattle.std.proofs.Common.{◌∙◌, arith}
use Rattle.layout.specs.Rows.{Row, width}
use Rattle.table.specs.declared.Grid.{Grid}
use Rattle.table.specs.Grids.{cell_of}
use Rattle.profile.specs.Offences.{next, kind_of}
use Rattle.used_rows.specs.Held.{word_in, Held, Follows, Tells, word-past, word-beyond, kind_word, next_word, drop_past, drop-row}

module _ (g : Grid) (table : List ℕ) (used row : ℕ) where
  pub word_none : (word : ℕ) → used ≤ row → Tells g table used (λ rows. word_in rows row word) 0
  word_none word h rows d = sym (word-past rows row word (omega (arith, d.count)))

  pub word_wide : (word : ℕ) → width ≤ word → Tells g table used (λ rows. word_in rows row word) 0
  word_wide word h rows d = sym (word-beyond rows row word h)

  pub word_some : (word : ℕ) {r : ℕ} → row < used → word < width → r ≡ get_or table (cell_of g row word) 0 → Tells g table used (λ rows. word_in rows row word) r
  word_some word h w e rows d = e ∙ d.cells row word (omega (arith, d.count)) w

  pub follow-end : used ≤ row → Follows g table used row used
  unfolding next
  follow-end h = record {
    few = omega arith;
    behind = λ rows d. drop_past rows used (omega (arith, d.count)) ∙ ap next (sym (drop_past rows row (omega (arith, d.count))));
  }

  module _ {b : ℕ} (there : row < used) (is : Tells g table used (λ rows. word_in rows row 6) b) where
    pub follow-past : used - row ≤ b → Follows g table used row used
    follow-past h = record {
      few = omega arith;
      behind = λ rows d.
          let n = d.count in
          let e = is rows d in
          drop_past rows used (omega arith) ∙ sym (drop_past rows (row + word_in rows row 6) (omega arith)) ∙ sym (next_word rows row);
    }

    pub follow_on : b < used - row → Follows g table used row (row + b)
    follow_on h = record {
      few = omega arith;
      behind = λ rows d. ap (λ (k : ℕ). drop (row + k) rows) (is rows d) ∙ sym (next_word rows row);
    }

module _ (g : Grid) (table : List ℕ) (used : ℕ) where
  module _ (row : ℕ) (there : row < used) where
    -- the first of the rows from a used row on, by its kind
    pub head_kind : {k : ℕ} (rows : List Row) → Held g table used rows → Tells g table used (λ rows. word_in rows row 0) k → (r : Row) × (drop row rows ≡ r ∷ drop (suc row) rows) × (r.kind ≡ k)
    unfolding kind_of
    head_kind rows d t =
        let e = drop-row rows row (omega (arith, d.count)) in
        (e.0, e.1, sym (ap kind_of e.1) ∙ kind_word rows row ∙ sym (t rows d))

-- Drafts that stand in the words, behind rows that are judged and cleared. Assumes nothing.
use Rattle.std.specs.Prelude.{◌≡◌, Bool, ℕ, suc, ◌+◌, ◌*◌, ◌≤◌, drop, Option}
use Rattle.std.proofs.Math.Path.{refl, ap}
use Rattle.std.proofs.Common.{sym, ◌∙◌, arith, take_all}
use Rattle.std.proofs.Math.Bool.{true, false}
use mathlib.Core.List.{List, [], ◌∷◌, ◌++◌, map, append_assoc}
use Rattle.std.proofs.Math.ListN.{length, length-append}
use Rattle.layout.specs.Rows.{words, width}
use Rattle.reading.specs.Drafts.{Draft, bare}
use Rattle.reading.specs.Resource.{suits}
use Rattle.reading.specs.File.{root_kinds}
use Rattle.table.specs.declared.Grid.{Grid}
use Rattle.table.specs.Stores.{Wide}
use Rattle.walked.specs.Written.{marked, drafts, length-drafts, wide_drafts, written}
use Rattle.resources.specs.Marked.{Marked}
use Rattle.resources.specs.Settled.{settled_of, settled, Settles, Drafted}
use Rattle.resources.specs.Total.{roots_from, roots_of, onward, rows_settled, settle_of}
use Rattle.resources.specs.OneRow.{stored, wide_append, word_at, cleared, row_settled_lem}

module _ (g : Grid) (w : List ℕ) (long : width * g.room ≤ length w) where
  -- rows that are stored, and drafts behind them
  record Stand (v : List ℕ) (i : ℕ) (done : List (List ℕ)) (ds : List Draft) : Type 0 where
    there : v ≡ stored g w (done ++ drafts ds)
    place : i ≡ length done
    wide : Wide done
    fits : length done + length ds ≤ g.room

  -- the rows of both
  all_wide : {v : List ℕ} {i : ℕ} {done : List (List ℕ)} {ds : List Draft} → Stand v i done ds → Wide (done ++ drafts ds)
  all_wide {done = done} {ds} s = wide_append done (drafts ds) s.wide (wide_drafts ds)

  all_fit : {v : List ℕ} {i : ℕ} {done : List (List ℕ)} {ds : List Draft} → Stand v i done ds → length (done ++ drafts ds) ≤ g.room
  all_fit {done = done} {ds} s = omega (arith, length-append done (drafts ds), length-drafts ds, s.fits)

  -- the first draft, or its row, is one of the rows before
  step : {v : List ℕ} {i : ℕ} (done : List (List ℕ)) (x : List ℕ) (ds : List Draft) → v ≡ stored g w (done ++ (x ∷ drafts ds)) → length x ≡ width → i ≡ length done → Wide done
      → length done + suc (length ds) ≤ g.room → Stand v (i + 1) (done ++ (x ∷ [])) ds
  unfolding Wide
  step done x ds e l p h f =
      let n : length (done ++ (x ∷ [])) ≡ length done + 1 = length-append done (x ∷ []) in
      record {
        there = e ∙ ap (stored g w) (sym (append_assoc done (x ∷ []) (drafts ds)));
        place = omega (arith, n);
        wide = wide_append done (x ∷ []) h (l, tt);
        fits = omega (arith, n);
      }

  -- the kinds of the roots among the drafts
  roots_from_lem : {v : List ℕ} {i : ℕ} {done : List (List ℕ)} (ds : List Draft) → Stand v i done ds → roots_from g v (length ds) i ≡ root_kinds ds
  unfolding roots_from root_kinds drafts words
  roots_from_lem {v = v} {i = i} {done = done} [] s = refl
  roots_from_lem {v = v} {i = i} {done = done} (d ∷ ds) s =
      let x = words (marked d) in
      rw (
        roots_from_lem {v = v} {i = i + 1} {done = done ++ (x ∷ [])} ds (step done x ds s.there refl s.place s.wide s.fits),
        s.there,
        s.place,
        word_at g w long done x (drafts ds) (all_wide s) (all_fit s) 4 (omega arith),
        word_at g w long done x (drafts ds) (all_wide s) (all_fit s) 0 (omega arith),
      )

  module _ (shared : List ℕ) where
    -- the first draft is judged, and those behind it if it is fine
    on_settled : (d : Draft) (ds : List Draft) (b : Bool) → suits shared d.wants d.row.detail ≡ b → (without with end : List ℕ) (more : List ℕ → Option ℕ × List ℕ)
        → Settles shared ds (more without).1 end (more without).0
        → let o = cleared b d.row.first without with in Settles shared (d ∷ ds) (onward o.0 o.1 more).1 end (onward o.0 o.1 more).0
    unfolding settled_of
    on_settled d ds true e without with end more h = record { answers = rw e h.answers; leaves = h.leaves }
    on_settled d ds false e without with end more h = record { answers = rw e; leaves = refl }

    -- the drafts are judged and cleared
    rows_settled_lem : {v : List ℕ} {i : ℕ} {done : List (List ℕ)} (ds : List Draft) → Marked ds → Stand v i done ds
        → Settles shared ds (rows_settled g shared (length ds) i v).1 (stored g w (done ++ map words (bare ds))) (rows_settled g shared (length ds) i v).0
    unfolding rows_settled settled_of drafts Marked words
    rows_settled_lem {v = v} {i = i} {done = done} [] m s = record { answers = refl; leaves = s.there }
    rows_settled_lem {v = v} {i = i} {done = done} (d ∷ ds) m s =
        let next = rows_settled_lem {v = stored g w (done ++ (words d.row ∷ drafts ds))} {i = length done + 1} {done = done ++ (words d.row ∷ [])} ds m.1 (step {v = stored g w (done ++ (words d.row ∷ drafts ds))} {i = length done} done (words d.row) ds refl refl refl s.wide s.fits) in
        rw (s.there, s.place, row_settled_lem g w long shared done d.row (drafts ds) d.wants m.0 (all_wide s) (all_fit s))
        (on_settled d ds (suits shared d.wants d.row.detail) refl _ _ _ (λ u. rows_settled g shared (length ds) (length done + 1) u)
        (rw (append_assoc done (words d.row ∷ []) (map words (bare ds))) at next))

-- nothing stands before the drafts of a file
none_before : {g : Grid} {entry w : List ℕ} {used : ℕ} {ds : List Draft} (d : Drafted g entry used ds w) → Stand g w d.long entry 0 [] ds
unfolding written Wide
none_before d = record { there = d.stand; place = refl; wide = tt; fits = omega (arith, d.fits) }

-- there is room for the kinds of all roots
roots-drafted : {g : Grid} {entry w : List ℕ} {used : ℕ} {ds : List Draft} → Drafted g entry used ds w → roots_of g entry used ≡ root_kinds ds
roots-drafted {g} {entry} {w} {used} {ds} d = rw (d.count, roots_from_lem g w d.long ds (none_before d)) (take_all 257 (root_kinds ds) d.few)

-- what `settle` answers and leaves where drafts stand in the words
drafted_settles : {g : Grid} {entry w : List ℕ} {used : ℕ} {ds : List Draft} → Drafted g entry used ds w
    → Settles (drop 1 (root_kinds ds)) ds (settle_of g entry used).1 (settled g w ds) (settle_of g entry used).0
unfolding settled
drafted_settles {g} {entry} {w} {used} {ds} d = rw (roots-drafted d, d.count) (rows_settled_lem g w d.long (drop 1 (root_kinds ds)) ds d.marked (none_before d))

pub settles_drafts : {g : Grid} {entry exit w : List ℕ} {used : ℕ} {ds : List Draft} {r : Option ℕ} → r ≡ (settle_of g entry used).0 → exit ≡ (settle_of g entry used).1 → Drafted g entry used ds w
    → Settles (drop 1 (root_kinds ds)) ds exit (settled g w ds) r
settles_drafts e f d = rw (e, f) (drafted_settles d)

-- Laws of loading: each step of the code against what loading answers. Assumes nothing.
use Rattle.std.specs.Prelude.{◌≡◌, Bool, ℕ, ◌≤◌, Ok, Err}
use Rattle.std.proofs.Math.Path.{refl, ap}
use Rattle.std.proofs.Common.{◌∙◌}
use Rattle.std.proofs.Math.Bool.{true, false}
use mathlib.Core.List.{List}
use native.Mathlib.Omega.{arith}
use Rattle.std.proofs.Math.ListN.{length}
use Rattle.std.specs.Result.{is_err}
use Rattle.laws.specs.Small.{differ}
use Rattle.layout.specs.Rows.{Row, words}
use Rattle.layout.specs.EnumList.{EnumEntry}
use Rattle.layout.specs.Table.{shape_of, room_of}
use Rattle.reading.specs.Answer.{Answer, refused, read}
use Rattle.reading.specs.Reads.{Small}
use Rattle.reading.specs.Drafts.{bare, length-bare}
use Rattle.reading.specs.File.{Loaded as FileLoaded, accepted, file_at, to_load, load_of, table_in}
use Rattle.table.specs.Grids.{grid_of}
use Rattle.table.specs.Word.{in_word, in_word_lem}
use Rattle.load.specs.Loads.{Loading, file_total, Loads, answer_of}
use Rattle.readers.specs.Judged.{judged_name, judges}
use Rattle.enums.specs.Judge.{Judgement, lawful, enums_at}
use Rattle.enums.specs.Judge.{refused as list-refused}
use Rattle.load.specs.Under.{under_list, file_under, load_under}
use Rattle.reading.specs.Theorems.{rows_fit}
use Rattle.reading.proofs.Theorems.{accepted_is}
use Rattle.places.specs.Padding.{file_padding, file_few}
use Rattle.load.specs.Laws.{loads}

-- a file that is accepted has few numbers, so its padding fits a word
listed-fits : (es : List EnumEntry) (file : List ℕ) (words : ℕ) → Small file → (rows : List Row) (readers shared : ℕ) → load_of (judged_name es) file words ≡ accepted rows readers shared → in_word (file_padding file readers rows) ≡ file_padding file readers rows
unfolding room_of
listed-fits es file words small rows readers shared e =
    let a = accepted_is es (judged_name es) (judges es) file words small rows readers shared e in
    let f = a.0 in
    let n : length rows ≤ 65536 = omega (arith, ap length a.1, (rows_fit es (judged_name es) (judges es) file words f).0, f.room) in
    in_word_lem (file_padding file readers rows) (omega (arith, file_few file small readers rows, a.2, f.lays.lists.not_many))

-- under a lent list
total-fits : (enums file : List ℕ) (words : ℕ) → Small file → (rows : List Row) (readers shared : ℕ) → load_under enums file words ≡ accepted rows readers shared → in_word (file_padding file readers rows) ≡ file_padding file readers rows
unfolding load_under file_under under_list to_load load_of
total-fits enums file words small rows readers shared e = go (enums_at enums) e where
  go : (j : Judgement) → to_load (under_list j (λ es. file_at (judged_name es) file (room_of words))) ≡ accepted rows readers shared → in_word (file_padding file readers rows) ≡ file_padding file readers rows
  go (list-refused n i) q = differ cc
  go (lawful es) q = listed-fits es file words small rows readers shared q

-- the whole: what is answered, and what the words hold at the end
module _ (enums file entry : List ℕ) (columns : Bool) where
  pub load_loaded : Small file → {exit : List ℕ} (r : Loading) → loads enums file entry columns exit r → is_err r ≡ false
      → (r ≡ answer_of file (load_under enums file (length entry))) × (exit ≡ table_in (shape_of columns) (load_under enums file (length entry)) (length entry))
  unfolding load_under to_load table_in
  load_loaded small {exit} (Err y) l t = let q : true ≡ false = t in differ cc
  load_loaded small {exit} (Ok r) l t = go columns (file_under enums file (room_of (length entry))) refl l where
    go : (b : Bool) (x : Answer FileLoaded) → file_under enums file (room_of (length entry)) ≡ x → Loads (grid_of (length entry) b) (file_total file) x entry exit (Ok r)
        → (Ok r ≡ answer_of file (to_load x)) × (exit ≡ table_in (shape_of b) (to_load x) (length entry))
    go b (refused c d) q l = differ cc
    go false (read a f) q l =
        let t = total-fits enums file (length entry) small (bare a.rows) a.readers a.shared (ap to_load q) in
        (l.0 ∙ rw (length-bare a.rows, t), l.1)
    go true (read a f) q l =
        let t = total-fits enums file (length entry) small (bare a.rows) a.readers a.shared (ap to_load q) in
        (l.0 ∙ rw (length-bare a.rows, t), l.1)

-- From the contract of `load` to what is demanded of 19. Assumes nothing.
use mathlib.Core.Path.{◌≡◌, refl, sym, ap, ◌∙◌}
use mathlib.Core.List.{List, [], ◌∷◌}
use Prim.Native.Nat.{ℕ, zero, suc, ◌<◌}
use native.Mathlib.Omega.{arith}
use lib.Dec.{eqb}
use lib.ListN.{length, replicate}
use Rattle.layout.specs.Target.{Target}
use Rattle.layout.specs.Tree.{size}
use Rattle.layout.specs.File.{FileTree, FileLays, file_rows}
use Rattle.layout.specs.EnumList.{EnumEntry, write_enums, Enums}
use Rattle.layout.specs.Table.{room_of}
use Rattle.reading.specs.Answer.{Answer, refused, read, bind}
use Rattle.reading.specs.Drafts.{Draft, bare, length-bare}
use Rattle.reading.specs.Walk.{Taken}
use Rattle.reading.specs.File.{Named, Loaded, refusal, to_load, load_of, table_of, header_at, lists_at, objects_at, judged, finished, file_at, table_in}
use Rattle.reading.specs.Accepts.{loaded_of, rows-count, file_bare}
use Rattle.reading.proofs.Accepts.{file_complete}
use Rattle.readers.specs.Judged.{judged_name, judges}
use Rattle.enums.specs.Lists.{judged-list}
use Rattle.load.specs.Under.{load_under, load_lawful}
use Rattle.load.specs.Loads.{Loading, answer_of}
use Rattle.full_tables.specs.Full.{first_of, Full}
use Rattle.full_tables.proofs.Short.{first_at, read-bind, read-check, objects-short, objects-count}

first_bare : (rows : List Draft) (i : ℕ) → first_at rows i ≡ first_of (bare rows) i
unfolding first_at first_of
first_bare [] i = refl
first_bare (d ∷ rows) zero = refl
first_bare (d ∷ rows) (suc i) = first_bare rows i

-- a file that was read has the rows that were
rows_of : Answer Loaded → List Draft
rows_of (refused n p) = []
rows_of (read l e) = l.rows

judged-read : (shared : List ℕ) (rows : List Draft) {x : Answer Loaded} {l : Loaded} {e : ℕ} → judged shared rows x ≡ read l e → x ≡ read l e
unfolding judged
judged-read shared [] q = q
judged-read shared (d ∷ rows) q = judged-read shared rows (read-check _ 17 d.row.first q).1

module _ (file : List ℕ) where
  finished_rows : (platform flags : ℕ) (names : List (List ℕ)) (readers shared : ℕ) (a : Taken) (e : ℕ) {l : Loaded} {n : ℕ} → finished file platform flags names readers shared a e ≡ read l n → l.rows ≡ a.1
  unfolding finished rows_of
  finished_rows platform flags names readers shared a e q = sym (ap rows_of (judged-read _ a.1 (read-check (eqb e (length file)) 20 e q).1))

  -- a refusal of the objects is one of the file
  objects_refused : (name_of : ℕ → List ℕ → Named) (room : ℕ) (h : ℕ × ℕ) (at : ℕ) (l : List (List ℕ) × List Target × ℕ) (first number place : ℕ)
      → header_at file ≡ read h at → lists_at name_of file at ≡ read l first → objects_at file room l.1 l.2 first ≡ refused number place → file_at name_of file room ≡ refused number place
  unfolding file_at bind
  objects_refused name_of room h at l first number place x y z = rw (x, y, z)

  -- a file that is read with more room, where there is less
  file_short : (name_of : ℕ → List ℕ → Named) (room more : ℕ) {l : Loaded} {n : ℕ} → file_at name_of file more ≡ read l n → room < length l.rows → file_at name_of file room ≡ refused 19 (first_at l.rows room)
  unfolding file_at
  file_short name_of room more {l} q h =
      let r = read-bind (header_at file) q in
      let r₂ = read-bind (lists_at name_of file r.1) r.3 in
      let x = r₂.0 in
      let r₃ = read-bind (objects_at file more x.1 x.2 r₂.1) r₂.3 in
      let a = r₃.0 in
      let z : l.rows ≡ a.1 = finished_rows r.0.0 r.0.1 x.0 (length x.1) x.2 a r₃.1 r₃.3 in
      let c : length a.1 ≡ a.0 = objects-count file x.1 x.2 room more r₂.1 r₃.2 in
      let s : objects_at file room x.1 x.2 r₂.1 ≡ refused 19 (first_at a.1 room) = objects-short file x.1 x.2 room more r₂.1 r₃.2 (omega (arith, ap length z, c)) in
      objects_refused name_of room r.0 r.1 x r₂.1 19 (first_at a.1 room) r.2 r₂.2 s ∙ ap (λ (rows : List Draft). refused 19 (first_at rows room)) (sym z)

module _ (enums file : List ℕ) (words : ℕ) {left : List ℕ} {r : Loading} (answers : r ≡ answer_of file (load_under enums file words)) (leaves : left ≡ table_of (load_under enums file words) words) where
  no_room : (es : List EnumEntry) → Enums es → enums ≡ write_enums es → (ft : FileTree) (w : FileLays es ft file) → room_of words < size ft.objects
      → load_under enums file words ≡ refusal 19 (first_of (file_rows es ft file w) (room_of words))
  unfolding load_of to_load
  no_room es v b ft w h =
      let rows = (loaded_of es ft file w).rows in
      let i : bare rows ≡ file_rows es ft file w = file_bare es ft file w in
      let n : length rows ≡ size ft.objects = sym (length-bare rows) ∙ ap length i ∙ rows-count es ft file w in
      let q = file_complete es (judged_name es) (judges es) file (size ft.objects) ft w (omega arith) in
      let s = file_short file (judged_name es) (room_of words) (size ft.objects) q (omega (arith, n)) in
      load_lawful enums file words es (judged-list enums es v b) ∙ rw s (ap (refusal 19) (first_bare rows (room_of words) ∙ ap (λ rows. first_of rows (room_of words)) i))

  pub load_full : Full enums file words left r
  unfolding table_in
  load_full = record {
    full = λ es v b ft w h. let e = no_room es v b ft w h in (answers ∙ ap (answer_of file) e, leaves ∙ rw e);
  }

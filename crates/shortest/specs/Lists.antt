-- A file with the seven-bit number at each of its places in its shortest form has its shortest bytes. Assumes nothing.
use Rattle.std.specs.Prelude.{◌≡◌, ℕ, ◌+◌, ◌-◌, take}
use Rattle.std.proofs.Math.Path.{refl, sym, ap}
use Rattle.std.proofs.Common.{◌∙◌, arith}
use mathlib.Core.List.{List, [], ◌∷◌, ◌++◌, append_assoc, append-nil}
use Rattle.std.proofs.Math.ListN.{length, drop, length-append}
use Rattle.layout.specs.EnumList.{EnumEntry}
use Rattle.layout.specs.Number.{little}
use Rattle.layout.specs.Text.{ascii}
use Rattle.layout.specs.Target.{Target}
use Rattle.layout.specs.Tree.{count}
use Rattle.layout.specs.Resource.{Resource}
use Rattle.layout.specs.Rows.{Row}
use Rattle.layout.specs.File.{FileTree, shared_of, header, objects_plan, Entry, Entries, FileLays, file_rows}
use Rattle.layout.specs.Shortest.{shortest, short, short_entry, short_entries, short_lists, short_body}
use Rattle.reading.specs.Reads.{seam}
use Rattle.reading.specs.Seven.{seven_at}
use Rattle.reading.specs.Little.{length-little}
use Rattle.numbers.specs.Padded.{number_of, past}
use Rattle.places.specs.Places.{behind_entry, rows_places, entries_places, entries_end, lists_places, file_places}
use Rattle.shortest.specs.Places.{Shortened, copied, number, joined, number_is, split, lays_shortened}
use Rattle.shortest.specs.Rewrites.{Rewrites, whole-rewrites}

module _ (file : List ℕ) where
  module _ (es : List EnumEntry) where
    entry_shortened : (name : List ℕ) (t : Target) (bs others : List ℕ) (at : ℕ) → Entry es name t bs → drop at file ≡ bs ++ others
        → Shortened file at (at + length bs) (at ∷ []) (short_entry name) × (behind_entry (seven_at file at) at ≡ at + length bs)
    unfolding short_entry behind_entry past number_of
    entry_shortened name t bs others at w d =
        let behind = name ++ little 4 0 in
        let c = split file at bs w.number behind others w.parts d in
        let l : length behind ≡ length name + 4 = omega (arith, length-append name (little 4 0), length-little 4 0) in
        let s = number_is file (length name) at w.number (behind ++ others) w.numbered c.0 in
        (joined (number w.number (behind ++ others) c.0 refl w.numbered) (copied others c.1 c.2), rw s (omega (arith, c.2)))

    entries_shortened : (names : List (List ℕ)) (readers : List Target) (bs others : List ℕ) (at : ℕ) → Entries es names readers bs → drop at file ≡ bs ++ others
        → Shortened file at (at + length bs) (entries_places file (length names) at) (short_entries names) × (entries_end file (length names) at ≡ at + length bs)
    unfolding Entries entries_places entries_end short_entries
    entries_shortened [] [] bs others at w d =
        let l : at + length bs ≡ at = omega (arith, ap length w) in
        (copied others (rw w at d) (ap (λ (b : List ℕ). at + length b) w), sym l)
    entries_shortened [] (t ∷ readers) bs others at w d = absurd w
    entries_shortened (name ∷ names) [] bs others at w d = absurd w
    entries_shortened (name ∷ names) (t ∷ readers) bs others at w d =
        let c = split file at bs w.0 w.1 others w.2 d in
        let e = entry_shortened name t w.0 (w.1 ++ others) at w.3 c.0 in
        let r = entries_shortened names readers w.1 others (at + length w.0) w.4 c.1 in
        (rw (e.1, c.2) (joined e.0 r.0), ap (entries_end file (length names)) e.1 ∙ r.1 ∙ sym c.2)

    module _ (ft : FileTree) (w : FileLays es ft file) where
      abbrev rows : List Row
      rows = file_rows es ft file w

      -- all behind the header, with each number in its shortest form
      body_shortened : Shortened file 10 (length file) (file_places file (length ft.names) rows) (short_body ft)
      unfolding file_places lists_places short_body short_lists file_rows past header ascii little
      body_shortened =
          let shared = count (shared_of ft.objects) in
          let l = w.lists in
          let b : drop 10 file ≡ w.before ++ w.values = ap (drop 10) w.parts in
          let o : length file ≡ 10 + length w.before + length w.values = omega (arith, ap length w.parts, length-append w.before w.values) in
          let c = split file 10 w.before l.number (l.entries ++ l.shared_number) w.values l.parts b in
          let d = split file (10 + length l.number) (l.entries ++ l.shared_number) l.entries l.shared_number w.values refl c.1 in
          let z : drop (10 + length w.before) file ≡ w.values ++ [] = seam file 10 w.before w.values [] (b ∙ sym (append-nil (w.before ++ w.values))) in
          let n = number_is file (length ft.names) 10 l.number ((l.entries ++ l.shared_number) ++ w.values) l.numbered c.0 in
          let e = entries_shortened ft.names w.readers l.entries (l.shared_number ++ w.values) (10 + length l.number) l.listed d.0 in
          let v = lays_shortened file w.readers (Resource (shared_of ft.objects)) (objects_plan shared) ft.objects w.values w.laid (10 + length w.before) 0 0 [] z in
          let a : Shortened file 10 (10 + length l.number) (10 ∷ []) (shortest (length ft.names)) = number l.number ((l.entries ++ l.shared_number) ++ w.values) c.0 refl l.numbered in
          let f : 10 + length w.before ≡ 10 + length l.number + length l.entries + length l.shared_number = omega (arith, c.2, d.2) in
          let s : Shortened file (10 + length l.number + length l.entries) (10 + length w.before) ((10 + length l.number + length l.entries) ∷ []) (shortest shared)
          = number l.shared_number w.values d.1 f l.shared_numbered in
          let all = joined a (joined e.0 (joined s v)) in
          let first = 10 + length l.number in
          let behind = entries_end file (length ft.names) first ∷ [] in
          rw (
            n,
            append_assoc (entries_places file (length ft.names) first) behind (rows_places file rows),
            e.1,
            o,
            append_assoc (shortest (length ft.names)) (short_entries ft.names ++ shortest shared) (short ft.objects),
            append_assoc (short_entries ft.names) (shortest shared) (short ft.objects),
          )
          all

      -- the file with each of its numbers in its shortest form is its first ten bytes and the shortest bytes of all behind them
      pub file_rewrites : Rewrites file 0 (file_places file (length ft.names) rows) (take 10 file ++ short_body ft)
      file_rewrites = whole-rewrites file body_shortened 0 (omega arith)

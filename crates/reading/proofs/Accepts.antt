-- A file is read exactly when it is the bytes of a file tree and there is room for its rows. Assumes nothing.
use Rattle.std.specs.Prelude.{◌≡◌, true, eqb, replicate}
use Rattle.std.proofs.Math.Path.{refl, sym, ap}
use Rattle.std.proofs.Common.{◌∙◌, arith}
use mathlib.Core.List.{List, [], ◌∷◌, ◌++◌, append-nil}
use Prim.Native.Nat.{ℕ, suc, ◌+◌, ◌≤◌}
use Rattle.std.proofs.Math.ListN.{length, drop, length-append}
use Rattle.std.proofs.lemmas.List.{length-replicate}
use Rattle.std.proofs.Math.Seq.{drop-length}
use borrow.Author.Tests.{eqb-true, eq-eqb}
use Rattle.layout.specs.EnumList.{EnumEntry}
use Rattle.layout.specs.Number.{little}
use Rattle.layout.specs.Text.{ascii}
use Rattle.layout.specs.Target.{Target, object as anything}
use Rattle.layout.specs.Tree.{Trees, none, tree, count, size}
use Rattle.layout.specs.Slot.{object}
use Rattle.layout.specs.Layout.{Lays}
use Rattle.layout.specs.Resource.{Within, Resource}
use Rattle.layout.specs.File.{FileTree, shared_of, header, objects_plan, Entries, Lists, FileLays, file_rows}
use Rattle.reading.specs.Answer.{read, bind, check, Ok, is_read, ok_bind, ok_check}
use Rattle.reading.specs.Reads.{Small, seam}
use Rattle.reading.specs.Resource.{kinds, suits, resource-sound, resource-complete}
use Rattle.reading.specs.Walk.{Taken}
use Rattle.reading.proofs.Complete.{complete}
use Rattle.reading.specs.Sound.{Read}
use Rattle.reading.proofs.Sound.{walks_sound}
use Rattle.reading.specs.File.{Named, Judges, root_kinds, Loaded, objects_at, finished, file_at}
use Rattle.reading.specs.Front.{Headed, header-complete, header-sound, lists_reads}
use Rattle.reading.specs.References.{Every, judged-complete, judged-sound, change, every_row, roots_are, rows-length, slots-count}
use Rattle.reading.specs.Drafts.{Draft, nothing, drafts_of, bare, length-bare, drafts-bare}
use Rattle.reading.specs.Accepts.{IsFile, behind_header_lem, entries-length, file_drafts, headed, loaded_of, shared_count}

kinds_after : (ts : Trees) → drop 1 (kinds ts) ≡ kinds (shared_of ts)
unfolding kinds shared_of
kinds_after none = refl
kinds_after (tree k i own cs rest) = refl

nothing-suits : (shared : List ℕ) (id : ℕ) → suits shared nothing id ≡ true
unfolding suits
nothing-suits shared id = refl

module _ (es : List EnumEntry) where
  length_is : (ft : FileTree) (file : List ℕ) (w : FileLays es ft file) → 10 + length w.before + length w.values ≡ length file
  unfolding header ascii little
  length_is ft file w = omega (arith, ap length w.parts, length-append w.before w.values)

  module _ (name_of : ℕ → List ℕ → Named) (judges : Judges es name_of) (file : List ℕ) (room : ℕ) where
    pub file_complete : (ft : FileTree) (w : FileLays es ft file) → size ft.objects ≤ room
        → file_at name_of file room ≡ read (loaded_of es ft file w) (length file)
    unfolding file_at objects_at finished bind check file_drafts
    file_complete ft w fit =
        let ts = ft.objects in
        let shared = shared_of ts in
        let s = count shared in
        let ks = kinds shared in
        let plan = objects_plan s in
        let readers = w.readers in
        let at = 10 + length w.before in
        let rows = drafts_of readers (Resource shared) plan ts w.values w.laid at 0 0 in
        let rest : drop 10 file ≡ w.before ++ w.values = behind_header_lem es ft file w in
        let rest' : drop 10 file ≡ (w.before ++ w.values) ++ [] = rest ∙ sym (append-nil (w.before ++ w.values)) in
        let every : Every (suits ks) rows
        = every_row readers (Resource shared) (suits ks) (λ t id r. resource-complete shared t id r) (nothing-suits ks) plan ts w.values w.laid at 0 0 in
        let c = change readers (Resource shared) (Within s) (suits ks) (λ t id r p. r.within) plan ts w.values w.laid at 0 0 every in
        let h = header-complete file ft.platform ft.flags (headed es ft file w) in
        let l = (lists_reads es name_of judges file).complete (ft.names, readers, s) w.before w.values 10 w.lists rest in
        let o = complete file readers s room 32 plan ts w.values [] c.0 at 0 0 w.deep (omega arith) (seam file 10 w.before w.values [] rest') in
        let k : drop 1 (root_kinds rows) ≡ ks = ap (drop 1) (roots_are readers (Resource shared) plan ts w.values w.laid at 0) ∙ kinds_after ts in
        let n : length readers ≡ length ft.names = entries-length es ft.names readers w.lists.entries w.lists.listed in
        rw (h, l, o, c.1, length_is ft file w, eq-eqb (length file) (length file) refl, k, judged-complete ks rows _ every, n)

    finished_sound : (platform flags : ℕ) (names : List (List ℕ)) (readers : List Target) (s at : ℕ) (before : List ℕ) (small : Small file)
        → Headed file platform flags → Lists es names readers s before → at ≡ 10 + length before → drop 10 file ≡ before ++ drop at file
        → (a : Taken) (e : ℕ) → Read file readers s room small 32 (objects_plan s) at 0 0 a e
        → Ok (IsFile es file room) (finished file platform flags names (length readers) s a e)
    unfolding finished file_drafts
    finished_sound platform flags names readers s at before small h l here front a e r =
        let ts = a.2 in
        let shared = shared_of ts in
        let ks = kinds shared in
        let c : count shared ≡ s = shared_count readers (Within s) s ts r.bytes r.laid in
        let k : drop 1 (root_kinds a.1) ≡ ks
        = ap (λ (rows : List Draft). drop 1 (root_kinds rows)) r.rows_are ∙ ap (drop 1) (roots_are readers (Within s) (objects_plan s) ts r.bytes r.laid at 0) ∙ kinds_after ts in
        ok_check (eqb e (length file)) 20 e _ (λ t. judged-sound (drop 1 (root_kinds a.1)) a.1 _ (λ every.
        let every' : Every (suits ks) (drafts_of readers (Within s) (objects_plan s) ts r.bytes r.laid at 0 0) = rw (← k, ← r.rows_are) every in
        let m = change readers (Within s) (Resource shared) (suits ks) (λ t id p q. resource-sound shared t id (rw c p) q) (objects_plan s) ts r.bytes r.laid at 0 0 every' in
        let end : drop e file ≡ [] = ap (λ (n : ℕ). drop n file) (eqb-true e (length file) t) ∙ drop-length file in
        let values : drop at file ≡ r.bytes = r.there ∙ ap (λ (l : List ℕ). r.bytes ++ l) end ∙ append-nil r.bytes in
        let moved : (v : Lays readers (Resource shared) (objects_plan (count shared)) ts r.bytes)
        × (a.1 ≡ drafts_of readers (Resource shared) (objects_plan (count shared)) ts r.bytes v (10 + length before) 0 0)
        = rw (c, ← here) (m.0, r.rows_are ∙ sym m.1) in
        is_read (record {
          lays = record {
            platform = h.platform_is;
            flags = h.flags_are;
            short = h.short;
            readers = readers;
            before = before;
            values = r.bytes;
            parts = h.parts ∙ ap (λ (l : List ℕ). header platform flags (length file) ++ l) (front ∙ ap (λ (l : List ℕ). before ++ l) values);
            lists = rw c l;
            laid = moved.0;
            deep = r.deep;
          };
          rows_are = moved.1;
          readers_are = entries-length es names readers l.entries l.listed;
          shared_are = sym c;
          room_left = omega (arith, r.used_is, r.room_left (omega arith));
        })))

    pub file_sound : Small file → Ok (IsFile es file room) (file_at name_of file room)
    unfolding file_at objects_at
    file_sound small =
        ok_bind (header-sound file small) (λ h e v.
        ok_bind ((lists_reads es name_of judges file).sound small e) (λ l at u.
        ok_bind (walks_sound file l.1 l.2 room small 32 (objects_plan l.2) at 0 0) (λ a e' r.
        finished_sound h.0 h.1 l.0 l.1 l.2 at u.0 small v.1 u.1 (rw v.0 at u.3) (rw v.0 at u.2) a e' r)))

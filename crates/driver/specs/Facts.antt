-- What is known of a file that the plain loader accepted, and what the driver's loader answers then. Assumes nothing.
use Rattle.std.specs.Prelude.{◌≡◌, ℕ, zero, suc, ◌+◌, ◌*◌, ◌-◌, ◌<◌, ◌≤◌, get_or, Ok, Err}
use Rattle.std.proofs.Math.Path.{refl, sym, ap}
use Rattle.std.proofs.Common.{◌∙◌, arith}
use mathlib.Core.List.{List, [], ◌∷◌, ◌++◌}
use Rattle.std.proofs.Math.ListN.{length, drop, replicate}
use Rattle.laws.specs.Small.{differ}
use Rattle.layout.specs.Number.{little}
use Rattle.layout.specs.Text.{ascii}
use Rattle.layout.specs.Target.{Target}
use Rattle.layout.specs.Tree.{Trees, none, tree, count, size}
use Rattle.layout.specs.EnumList.{EnumEntry}
use Rattle.layout.specs.Rows.{Row, words, width, flat}
use Rattle.layout.specs.File.{shared_of, header}
use Rattle.layout.specs.Table.{cell, room_of}
use Rattle.reading.specs.Answer.{read}
use Rattle.reading.specs.Reads.{Small}
use Rattle.reading.specs.Front.{lists_reads}
use Rattle.reading.specs.Accepts.{entries-length}
use Rattle.reading.specs.File.{lists_at, Load, refusal, accepted, load_of, table_of, table_in}
use Rattle.layout.specs.Fits.{FittingTree, rows_in}
use Rattle.reading.proofs.Theorems.{accepted_is}
use Rattle.table.specs.Grids.{rows_grid}
use Rattle.places.specs.Padding.{file_padding}
use Rattle.names.specs.Entries.{enums_of}
use Rattle.names.specs.EntryLaws.{enums-written}
use Rattle.enums.specs.Judge.{Judgement, lawful, enums_at}
use Rattle.enums.specs.Judge.{refused as list-refused}
use Rattle.enums.specs.Lists.{Bytes, enums-sound}
use Rattle.readers.specs.Judged.{judged_name, judges}
use Rattle.answers.specs.declared.Refusal.{Refusal}
use Rattle.load.specs.declared.Loaded.{Loaded}
use Rattle.load.specs.Under.{load_under, load_lawful, accepted-list, load_refused-list}
use Rattle.load.specs.Loads.{Loading, loaded, answer_of}
use Rattle.profile.specs.Stand.{Stand, file_stand}
use Rattle.profile.specs.Offences.{fine, fault, fault_of, by_fault, targets_of, profiled, driver_of, Offence}
use Rattle.used_rows.specs.Held.{word_in, Held}
use Rattle.driver.specs.Under.{by_list, driver_under}
use Rattle.driver.specs.Rules.{Accepted}
use Rattle.driver.specs.Settled.{Left, Settles}

-- ---- The rows stand in the table

flat_word : (rows : List Row) (rest : List ℕ) (i j : ℕ) → i < length rows → j < width → get_or (flat rows ++ rest) (width * i + j) 0 ≡ word_in rows i j
unfolding flat words word_in
flat_word [] rest i j h l = absurd (omega arith)
flat_word (r ∷ rows) rest zero zero h l = refl
flat_word (r ∷ rows) rest zero (suc zero) h l = refl
flat_word (r ∷ rows) rest zero (suc (suc zero)) h l = refl
flat_word (r ∷ rows) rest zero (suc (suc (suc zero))) h l = refl
flat_word (r ∷ rows) rest zero (suc (suc (suc (suc zero)))) h l = refl
flat_word (r ∷ rows) rest zero (suc (suc (suc (suc (suc zero))))) h l = refl
flat_word (r ∷ rows) rest zero (suc (suc (suc (suc (suc (suc zero)))))) h l = refl
flat_word (r ∷ rows) rest zero (suc (suc (suc (suc (suc (suc (suc j))))))) h l = absurd (omega arith)
flat_word (r ∷ rows) rest (suc i) j h l =
    let z : width * suc i + j ≡ suc (suc (suc (suc (suc (suc (suc (width * i + j))))))) = omega arith in
    rw z (flat_word rows rest i j (omega arith) l)

table_held : (rows : List Row) (rest : List ℕ) (n : ℕ) → Held (rows_grid n) (flat rows ++ rest) (length rows) rows
unfolding cell
table_held rows rest n = record { count = refl; cells = λ i j h l. flat_word rows rest i j h l }

-- ---- No row has too many children

word-append : (a b : List Row) (j n : ℕ) → ((i : ℕ) → word_in a i j ≤ n) → ((i : ℕ) → word_in b i j ≤ n) → (i : ℕ) → word_in (a ++ b) i j ≤ n
unfolding word_in
word-append [] b j n f g i = g i
word-append (r ∷ a) b j n f g zero = f 0
word-append (r ∷ a) b j n f g (suc i) = word-append a b j n (λ k. f (suc k)) g i

count-size : (ts : Trees) → count ts ≤ size ts
unfolding count size
count-size none = omega arith
count-size (tree k i own cs rest) = let h = count-size rest in omega arith

stand_few : (file : List ℕ) (n : ℕ) (ts : Trees) (rows : List Row) → Stand file ts rows → size ts ≤ suc n → (i : ℕ) → word_in rows i 3 ≤ n
unfolding Stand size word_in words
stand_few file n none rows s h i = rw s (omega arith)
stand_few file n (tree k d own cs rest) rows (r, below, behind, e, q, s, t) h i =
    rw e (go i (λ m. word-append below behind 3 n (λ x. stand_few file n cs below s (omega arith) x) (λ x. stand_few file n rest behind t (omega arith) x) m)) where
      go : (i : ℕ) → ((m : ℕ) → word_in (below ++ behind) m 3 ≤ n) → word_in (r ∷ (below ++ behind)) i 3 ≤ n
      go zero f = let c = count-size cs in omega (arith, q.children_is)
      go (suc i) f = f i

room_few : (n : ℕ) → room_of n ≤ 65536
unfolding room_of
room_few n = omega arith

-- ---- A file that was accepted

module _ (es : List EnumEntry) (file : List ℕ) (n : ℕ) (small : Small file) (rs : List Row) (rd sh : ℕ) (is : load_of (judged_name es) file n ≡ accepted rs rd sh) where
  pub fits : (f : FittingTree es file n) × (rs ≡ rows_in f) × (rd ≡ length f.tree.names) × (sh ≡ count (shared_of f.tree.objects))
  fits = accepted_is es (judged_name es) (judges es) file n small rs rd sh is

  abbrev targets : List Target
  targets = fits.0.lays.readers

  lists_are : (e : ℕ) × (lists_at (judged_name es) file 10 ≡ read (fits.0.tree.names, fits.0.lays.readers, count (shared_of fits.0.tree.objects)) e)
  unfolding header ascii little
  lists_are =
      let f = fits.0 in
      let w = f.lays in
      let s = count (shared_of f.tree.objects) in
      let b : drop 10 file ≡ w.before ++ w.values = ap (drop 10) w.parts in
      (10 + length w.before, (lists_reads es (judged_name es) (judges es) file).complete (f.tree.names, w.readers, s) w.before w.values 10 w.lists b)

  pub is_accepted : (rest : List ℕ) → Accepted es file (rows_grid n) (flat rs ++ rest) (length rs) rd (file_padding file rd rs) targets rs
  is_accepted rest = record {
    held = table_held rs rest n;
    few = λ i. rw fits.1 (stand_few file 65535 fits.0.tree.objects (rows_in fits.0) (file_stand file es fits.0.tree fits.0.lays) (let r = room_few n in omega (arith, fits.0.room)) i);
    short = fits.0.lays.short;
    count = fits.2 ∙ sym (entries-length es fits.0.tree.names fits.0.lays.readers fits.0.lays.lists.entries fits.0.lays.lists.listed);
    pads = refl;
    names = fits.0.tree.names;
    shared = count (shared_of fits.0.tree.objects);
    next = lists_are.0;
    listed = lists_are.1;
  }

  pub driver_then : driver_of (judged_name es) file n ≡ by_fault (fault_of file targets rs) (accepted rs rd sh)
  unfolding driver_of profiled targets_of
  driver_then = rw (is, lists_are.1)

-- ---- What the driver's loader answers

module _ (enums file : List ℕ) (n : ℕ) where
  -- a refusal is handed on
  driver_refused : {k p : ℕ} → load_under enums file n ≡ refusal k p → driver_under enums file n ≡ refusal k p
  unfolding driver_under by_list driver_of profiled
  driver_refused {k} {p} e = go (enums_at enums) refl where
    go : (j : Judgement) → enums_at enums ≡ j → by_list j file n ≡ refusal k p
    go (list-refused m i) q = sym (load_refused-list enums file n q) ∙ e
    go (lawful es) q = rw (sym (load_lawful enums file n es q) ∙ e)

  pub hand_on : {x : Refusal} → Err x ≡ answer_of file (load_under enums file n)
      → (Err x ≡ answer_of file (driver_under enums file n)) × (table_of (load_under enums file n) n ≡ table_of (driver_under enums file n) n)
  hand_on {x} e = go (load_under enums file n) refl e where
    go : (l : Load) → load_under enums file n ≡ l → Err x ≡ answer_of file l
        → (Err x ≡ answer_of file (driver_under enums file n)) × (table_of (load_under enums file n) n ≡ table_of (driver_under enums file n) n)
    go (refusal m q) d f =
        let r = driver_refused d in
        (rw r f, rw (d, r))
    go (accepted rs rd sh) d f = differ cc

  pub settled : {l : Loaded} → Small file → Bytes enums → Ok l ≡ answer_of file (load_under enums file n) → (entry exit : List ℕ) (r : Loading)
      → length entry ≡ n → entry ≡ table_of (load_under enums file n) n → Settles (enums_of enums) file entry exit l r
      → (r ≡ answer_of file (driver_under enums file n)) × (exit ≡ table_of (driver_under enums file n) n)
  unfolding by_fault table_in driver_under by_list
  settled {l} small bytes e entry exit r len en s = go (load_under enums file n) refl e where
    left_is : (rs : List Row) (rd sh : ℕ) (x : Offence) → Left x entry exit (loaded (length rs) rd sh (file_padding file rd rs)) r → entry ≡ table_of (accepted rs rd sh) n
        → (r ≡ answer_of file (by_fault x (accepted rs rd sh))) × (exit ≡ table_of (by_fault x (accepted rs rd sh)) n)
    left_is rs rd sh fine w t = (w.0, w.1 ∙ t)
    left_is rs rd sh (fault k p) w t = (w.0, w.1 ∙ ap (λ (m : ℕ). replicate m 0) len)

    go : (x : Load) → load_under enums file n ≡ x → Ok l ≡ answer_of file x → (r ≡ answer_of file (driver_under enums file n)) × (exit ≡ table_of (driver_under enums file n) n)
    go (refusal m q) d f = differ cc
    go (accepted rs rd sh) d f =
        let e₁ : l ≡ loaded (length rs) rd sh (file_padding file rd rs) = cc in
        let a = accepted-list enums file n rs rd sh d in
        let es = a.0 in
        let w = rw a.1 at (enums-sound enums bytes) in
        let z : enums_of enums ≡ es = ap enums_of w.1 ∙ enums-written es w.0 in
        let is : load_of (judged_name es) file n ≡ accepted rs rd sh = sym (load_lawful enums file n es a.1) ∙ d in
        let t : entry ≡ table_of (accepted rs rd sh) n = en ∙ ap (λ (x : Load). table_of x n) d in
        let s₁ : Settles es file entry exit (loaded (length rs) rd sh (file_padding file rd rs)) r = rw (z, e₁) at s in
        let b : Accepted es file (rows_grid (length entry)) entry (length rs) rd (file_padding file rd rs) (targets es file n small rs rd sh is) rs = rw (len, t) (is_accepted es file n small rs rd sh is (replicate (n - width * length rs) 0)) in
        let u : driver_under enums file n ≡ by_fault (fault_of file (targets es file n small rs rd sh is) rs) (accepted rs rd sh) = rw a.1 (driver_then es file n small rs rd sh is) in
        rw u (left_is rs rd sh (fault_of file (targets es file n small rs rd sh is) rs) (s₁ (targets es file n small rs rd sh is) rs b) t)

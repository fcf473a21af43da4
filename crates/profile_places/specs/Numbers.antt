-- 42: the places that the loader looks at are those of the file's numbers, and the first that it finds is the first number that is not shortest. Assumes nothing.
use Rattle.std.specs.Prelude.{◌≡◌, Bool, ◌⊎◌, eqb}
use Rattle.std.proofs.Math.Path.{refl, sym, ap}
use Rattle.std.proofs.Common.{◌∙◌, eqb-true, eq-eqb, ne_eqb}
use Rattle.std.proofs.Math.Bool.{true, false, cond, not}
use mathlib.Core.List.{List, [], ◌∷◌, ◌++◌, append_assoc, append-nil}
use Rattle.std.proofs.Math.Logic.{inl, inr}
use Prim.Native.Nat.{ℕ, zero, suc, ◌+◌, ◌-◌, ◌<◌}
use native.Mathlib.Omega.{arith}
use Rattle.std.proofs.Math.ListN.{length, drop, length-append}
use Rattle.std.proofs.lemmas.Bool.{eqb-false}
use Rattle.layout.specs.EnumList.{EnumEntry}
use Rattle.layout.specs.Number.{Seven, little}
use Rattle.layout.specs.Text.{ascii}
use Rattle.layout.specs.Target.{Target}
use Rattle.layout.specs.Tree.{Trees, none, tree, count, size, told}
use Rattle.layout.specs.Slot.{Slot, raw, object, reference, leaf, Plan, stop, put}
use Rattle.layout.specs.Layout.{Raw, Value, Lays}
use Rattle.layout.specs.Resource.{Resource}
use Rattle.layout.specs.Rows.{Row, row, raw_rows, value_rows, noted_rows, rows_of}
use Rattle.layout.specs.File.{FileTree, shared_of, header, objects_plan, Entries, FileLays, file_rows}
use Rattle.layout.specs.Shortest.{shortest, numbered, body}
use Rattle.reading.specs.Answer.{read}
use Rattle.reading.specs.Reads.{seam}
use Rattle.reading.specs.Seven.{seven_at}
use Rattle.reading.specs.Little.{length-little}
use Rattle.reading.specs.Rules.{null_id}
use Rattle.numbers.specs.Shortest.{shortest_is}
use Rattle.numbers.specs.Padded.{number_of, past, pad_of}
use Rattle.places.specs.Places.{id_places, raw_place, count_places, rows_places, behind_entry, entries_places, entries_end, lists_places, file_places}
use Rattle.places.specs.Padding as padding
use Rattle.shortest.specs.Short.{raw_form, form_numbered}
use Rattle.shortest.specs.Places.{number_is, split}
use Rattle.profile.specs.Offences.{wrong_at, padded}
use Rattle.fault_places.specs.Places.{first_place, Lowest, Among, among-append, append-among, wrong-among, among-wrong}
use Rattle.profile_places.specs.Pieces.{Piece, plain, number, Written, id_pieces, body_pieces, tree_pieces, entries_pieces, file_pieces, EndsAt}
use Rattle.profile_places.specs.Broken.{PaddedAt}
use Rattle.profile_places.specs.Rising.{Rise, rise_from, rise_least, first_lowest, rise_wrong}
use Rattle.profile_places.specs.Written.{written-split, form_written, value_written, trees_written, entries-written, file_written, end_of, number_places, places_append, written-end}

module _ (file : List ℕ) where
  -- ---- A value's own numbers

  id_places_lem : (kind id at : ℕ) → (number_places file (id_pieces kind id) at ≡ id_places file kind at id) × (end_of file (id_pieces kind id) at ≡ raw_place file kind at id)
  unfolding id_pieces id_places raw_place number_places end_of
  id_places_lem kind id at = go (numbered kind id) where
    go : (b : Bool) → (number_places file (cond b (number id ∷ []) []) at ≡ cond b (at ∷ []) []) × (end_of file (cond b (number id ∷ []) []) at ≡ cond b (past (seven_at file at) at) at)
    go true = (refl, refl)
    go false = (refl, refl)

  body_places : (kind : ℕ) (own : List ℕ) (n at : ℕ) → number_places file (body_pieces kind own n) at ≡ count_places file kind at
  unfolding body_pieces count_places number_places
  body_places kind own n at = go (eqb kind 13) where
    go : (b : Bool) → number_places file (cond b (number (length own) ∷ plain own ∷ []) (plain (body kind own n) ∷ [])) at ≡ cond b (at ∷ []) []
    go true = refl
    go false = refl

  -- a row and those below it, where the children begin behind the value's own pieces
  head_places : (kind id z c p b at : ℕ) (own : List ℕ) (n : ℕ) (cs : Trees) (below : List Row)
      → rows_places file below ≡ number_places file (tree_pieces cs) (end_of file (body_pieces kind own n) (end_of file (id_pieces kind id) at))
      → rows_places file (row kind at z c p id b ∷ below) ≡ number_places file (id_pieces kind id ++ (body_pieces kind own n ++ tree_pieces cs)) at
  unfolding rows_places
  head_places kind id z c p b at own n cs below e =
      let i = id_places_lem kind id at in
      rw (
        e,
        places_append file (id_pieces kind id) (body_pieces kind own n ++ tree_pieces cs) at,
        places_append file (body_pieces kind own n) (tree_pieces cs) (end_of file (id_pieces kind id) at),
        i.0,
        i.1,
        body_places kind own n (raw_place file kind at id),
      )

  no_id_end : (kind at : ℕ) → numbered kind 0 ≡ false → end_of file (id_pieces kind 0) at ≡ at
  unfolding raw_place
  no_id_end kind at e = (id_places_lem kind 0 at).1 ∙ rw e

  id_end : (kind i at n end : ℕ) → seven_at file at ≡ read n end → end_of file (id_pieces kind (suc i)) at ≡ end
  unfolding raw_place numbered past
  id_end kind i at n end e = (id_places_lem kind (suc i) at).1 ∙ rw e

  no_children : (kind id at : ℕ) (own : List ℕ) (n : ℕ) → rows_places file [] ≡ number_places file (tree_pieces none) (end_of file (body_pieces kind own n) (end_of file (id_pieces kind id) at))
  unfolding rows_places number_places tree_pieces
  no_children kind id at own n = refl

  module _ (readers : List Target) (refers : ℕ → ℕ → Type 0) (cs : Trees)
      (h : (plan : Plan) (b : List ℕ) (v : Lays readers refers plan cs b) (at n q : ℕ) (rest : List ℕ) → drop at file ≡ b ++ rest
      → rows_places file (rows_of readers refers plan cs b v at n q) ≡ number_places file (tree_pieces cs) at) where
    abbrev Under : Plan → List ℕ → Type 0
    Under plan b = Lays readers refers plan cs b

    abbrev below : (plan : Plan) (b : List ℕ) → Under plan b → (at n q : ℕ) → List Row
    below plan b v at n q = rows_of readers refers plan cs b v at n q

    -- a raw value behind its id, if it has one
    raw_places : (t : Target) (kind : ℕ) (own bs : List ℕ) (w : Raw Under t kind own cs bs) (first z at n p id : ℕ) (rest : List ℕ) → drop at file ≡ bs ++ rest → end_of file (id_pieces kind id) first ≡ at
        → rows_places file (raw_rows (λ r. r) (λ t r. r) Under below t kind own cs bs w first z at n p id) ≡ number_places file (id_pieces kind id ++ (body_pieces kind own (count cs) ++ tree_pieces cs)) first
    unfolding raw_rows
    raw_places t kind own bs w first z at n p id rest d e =
        let c = split file at bs w.head w.children rest w.parts d in
        let m = written-end file (body_pieces kind own (count cs)) w.head (w.children ++ rest) at (form_written (raw_form readers refers cs t kind own bs w)) c.0 in
        head_places kind id z (count cs) p (suc (size cs)) first own (count cs) cs (below w.plan w.children w.laid (at + length w.head) (suc n) (suc n))
        (rw (e, m) (h w.plan w.children w.laid (at + length w.head) (suc n) (suc n) rest c.1))

    value_places : (x : Slot) (kind id : ℕ) (own bs : List ℕ) (w : Value readers refers Under x kind id own cs bs) (at n q : ℕ) (rest : List ℕ) → drop at file ≡ bs ++ rest
        → rows_places file (value_rows (λ r. r) (λ t r. r) readers refers Under below x kind id own cs bs w at n q) ≡ number_places file (id_pieces kind id ++ (body_pieces kind own (count cs) ++ tree_pieces cs)) at
    unfolding Value value_rows
    value_places (raw t) kind id own bs w at n q rest d =
        rw w.0 (raw_places t kind own bs w.1 at (length bs) at n q 0 rest d (no_id_end kind at (form_numbered (raw_form readers refers cs t kind own bs w.1))))
    value_places (object t) kind id own bs (inl w) at n q rest d =
        rw (w.kind_of_lem, w.id_of, w.childless) (head_places 0 0 (length bs) 0 q 1 at own (count none) none [] (no_children 0 0 at own (count none)))
    value_places (object t) kind zero own bs (inr w) at n q rest d = absurd (null_id readers w.target w.reader)
    value_places (object t) kind (suc i) own bs (inr w) at n q rest d =
        let c = split file at bs w.number w.value rest w.parts d in
        raw_places w.target kind own w.value w.laid at (length bs) (at + length w.number) n q (suc i) rest c.1
        (id_end kind i at (suc i) (at + length w.number) (number_is file (suc i) at w.number (w.value ++ rest) w.numbered c.0))
    value_places (reference t) kind id own bs w at n q rest d =
        rw w.childless (head_places kind id (length bs) 0 q 1 at own (count none) none [] (no_children kind id at own (count none)))
    value_places (leaf x) kind id own bs w at n q rest d =
        rw (w.0, w.1) (head_places kind 0 (length bs) 0 q 1 at own (count none) none [] (no_children kind 0 at own (count none)))

  none_places : (at : ℕ) → rows_places file [] ≡ number_places file [] at
  unfolding rows_places number_places
  none_places at = refl

  pub trees_places : (readers : List Target) (refers : ℕ → ℕ → Type 0) (plan : Plan) (ts : Trees) (bs : List ℕ) (w : Lays readers refers plan ts bs) (at n q : ℕ) (rest : List ℕ)
      → drop at file ≡ bs ++ rest → rows_places file (rows_of readers refers plan ts bs w at n q) ≡ number_places file (tree_pieces ts) at
  unfolding Lays noted_rows tree_pieces
  trees_places readers refers stop none bs w at n q rest d = none_places at
  trees_places readers refers (put x go) none bs w at n q rest d = absurd w
  trees_places readers refers stop (tree k i own cs others) bs w at n q rest d = absurd w
  trees_places readers refers (put x go) (tree k i own cs others) bs w at n q rest d =
      let c = split file at bs w.0 w.1 rest w.2 d in
      let own_pieces = id_pieces k i ++ (body_pieces k own (count cs) ++ tree_pieces cs) in
      let v = value_places readers refers cs (λ plan b v at n q rest d. trees_places readers refers plan cs b v at n q rest d) x k i own w.0 w.3 at n q (w.1 ++ rest) c.0 in
      let m = written-end file own_pieces w.0 (w.1 ++ rest) at (value_written readers refers cs (λ plan b y. trees_written readers refers plan cs b y) x k i own w.0 w.3) c.0 in
      let r = trees_places readers refers (go (told k own cs)) others w.1 w.4 (at + length w.0) (n + suc (size cs)) q rest c.1 in
      rw (padding.places_append, v, r, places_append file own_pieces (tree_pieces others) at, m)

  -- ---- The whole file

  pub past_is : (at n end : ℕ) → seven_at file at ≡ read n end → past (seven_at file at) at ≡ end
  unfolding past
  past_is at n end e = rw e

  pub behind_is : (at n end : ℕ) → seven_at file at ≡ read n end → behind_entry (seven_at file at) at ≡ end + n + 4
  unfolding behind_entry past number_of
  behind_is at n end e = rw e

  entries_places_lem : (es : List EnumEntry) (names : List (List ℕ)) (readers : List Target) (bs others : List ℕ) (at : ℕ) → Entries es names readers bs → drop at file ≡ bs ++ others
      → (entries_places file (length names) at ≡ number_places file (entries_pieces names) at) × (entries_end file (length names) at ≡ end_of file (entries_pieces names) at)
  unfolding Entries entries_places entries_end entries_pieces number_places end_of
  entries_places_lem es [] [] bs others at w d = (refl, refl)
  entries_places_lem es [] (t ∷ readers) bs others at w d = absurd w
  entries_places_lem es (name ∷ names) [] bs others at w d = absurd w
  entries_places_lem es (name ∷ names) (t ∷ readers) bs others at (b, rest, e, y, w) d =
      let c = split file at bs b rest others e d in
      let s = split file at b y.number (name ++ little 4 0) (rest ++ others) y.parts c.0 in
      let n = number_is file (length name) at y.number ((name ++ little 4 0) ++ (rest ++ others)) y.numbered s.0 in
      let z : behind_entry (seven_at file at) at ≡ at + length b = behind_is at (length name) (at + length y.number) n ∙ omega (arith, s.2, length-append name (little 4 0), length-little 4 0) in
      let x : past (seven_at file at) at + length (name ++ little 4 0) ≡ at + length b = ap (λ (x : ℕ). x + length (name ++ little 4 0)) (past_is at (length name) (at + length y.number) n) ∙ sym s.2 in
      let r = entries_places_lem es names readers rest others (at + length b) w c.1 in (
        ap (λ (l : List ℕ). at ∷ l) (ap (entries_places file (length names)) z ∙ r.0 ∙ sym (ap (number_places file (entries_pieces names)) x)),
        ap (entries_end file (length names)) z ∙ r.1 ∙ sym (ap (end_of file (entries_pieces names)) x),
      )

module _ (es : List EnumEntry) (ft : FileTree) (file : List ℕ) (w : FileLays es ft file) where
  -- the places of the rows' numbers and of those before them are those of the file's pieces
  pub file_places_lem : file_places file (length ft.names) (file_rows es ft file w) ≡ number_places file (file_pieces ft) 10
  unfolding file_places lists_places file_rows file_pieces number_places header ascii little
  file_places_lem =
      let l = w.lists in
      let shared = count (shared_of ft.objects) in
      let b : drop 10 file ≡ w.before ++ w.values = ap (drop 10) w.parts in
      let c = split file 10 w.before l.number (l.entries ++ l.shared_number) w.values l.parts b in
      let d = split file (10 + length l.number) (l.entries ++ l.shared_number) l.entries l.shared_number w.values refl c.1 in
      let z : drop (10 + length w.before) file ≡ w.values ++ [] = seam file 10 w.before w.values [] (b ∙ sym (append-nil (w.before ++ w.values))) in
      let n = past_is file 10 (length ft.names) (10 + length l.number) (number_is file (length ft.names) 10 l.number ((l.entries ++ l.shared_number) ++ w.values) l.numbered c.0) in
      let e = entries_places_lem file es ft.names w.readers l.entries (l.shared_number ++ w.values) (10 + length l.number) l.listed d.0 in
      let m = written-end file (entries_pieces ft.names) l.entries (l.shared_number ++ w.values) (10 + length l.number) (entries-written es ft.names w.readers l.entries l.listed) d.0 in
      let s : past (seven_at file (10 + length l.number + length l.entries)) (10 + length l.number + length l.entries) ≡ 10 + length w.before
      = past_is file (10 + length l.number + length l.entries) shared (10 + length l.number + length l.entries + length l.shared_number)
      (number_is file shared (10 + length l.number + length l.entries) l.shared_number w.values l.shared_numbered d.1) ∙ omega (arith, c.2, d.2) in
      let v = trees_places file w.readers (Resource (shared_of ft.objects)) (objects_plan shared) ft.objects w.values w.laid (10 + length w.before) 0 0 [] z in
      rw (
        n,
        e.0,
        e.1,
        v,
        places_append file (entries_pieces ft.names) (number shared ∷ tree_pieces ft.objects) (10 + length l.number),
        m,
        s,
        append_assoc (number_places file (entries_pieces ft.names) (10 + length l.number)) ((10 + length l.number + length l.entries) ∷ []) (number_places file (tree_pieces ft.objects) (10 + length w.before)),
      )

-- ---- Those that are not shortest

module _ (file : List ℕ) where
  -- a place of a number of the pieces is where those before it end
  among_places : (p : ℕ) (pieces : List Piece) (at : ℕ) → Among p (number_places file pieces at)
      → (before : List Piece) × (n : ℕ) × (after : List Piece) × (pieces ≡ before ++ (number n ∷ after)) × (end_of file before at ≡ p)
  unfolding Among number_places end_of
  among_places p [] at m = absurd m
  among_places p (plain b ∷ pieces) at m =
      let r = among_places p pieces (at + length b) m in
      (plain b ∷ r.0, r.1, r.2, ap (λ (l : List Piece). plain b ∷ l) r.3, r.4)
  among_places p (number n ∷ pieces) at (inl e) = ([], n, pieces, refl, e)
  among_places p (number n ∷ pieces) at (inr m) =
      let r = among_places p pieces (past (seven_at file at) at) m in
      (number n ∷ r.0, r.1, r.2, ap (λ (l : List Piece). number n ∷ l) r.3, r.4)

  places_among : (before : List Piece) (n : ℕ) (after : List Piece) (at : ℕ) → Among (end_of file before at) (number_places file (before ++ (number n ∷ after)) at)
  unfolding Among number_places end_of
  places_among [] n after at = inl refl
  places_among (plain b ∷ before) n after at = places_among before n after (at + length b)
  places_among (number k ∷ before) n after at = inr (places_among before n after (past (seven_at file at) at))

  numbers_rise : (pieces : List Piece) (bs rest : List ℕ) (at : ℕ) → Written pieces bs → drop at file ≡ bs ++ rest → Rise at (number_places file pieces at)
  unfolding Written number_places Rise
  numbers_rise [] bs rest at w d = tt
  numbers_rise (plain b ∷ pieces) bs rest at (c, e, w) d =
      let s = split file at bs b c rest e d in
      rise_from at (at + length b) (number_places file pieces (at + length b)) (omega arith) (numbers_rise pieces c rest (at + length b) w s.1)
  numbers_rise (number n ∷ pieces) bs rest at (b, c, e, v, w) d =
      let s = split file at bs b c rest e d in
      let r = past_is file at n (at + length b) (number_is file n at b (c ++ rest) v s.0) in
      (omega arith, rw r (rise_from at (at + length b) (number_places file pieces (at + length b)) (omega arith) (numbers_rise pieces c rest (at + length b) w s.1)))

  padded_rise : (a : ℕ) (places : List ℕ) → Rise a places → Rise a (padded file places)
  unfolding Rise padded
  padded_rise a [] r = tt
  padded_rise a (p ∷ places) r = rise_wrong (not (eqb (pad_of (seven_at file p) p) 0)) a p (padded file places) r.0 (padded_rise p places r.1)

  abbrev Longer : (p : ℕ) → Type 0
  Longer p = pad_of (seven_at file p) p ≡ 0 → ⊥

  not_zero : (n : ℕ) → not (eqb n 0) ≡ true → n ≡ 0 → ⊥
  not_zero n e z = let f : not true ≡ true = rw (eq-eqb n 0 z) at e in let x : ◌≡◌ {A = ℕ} 0 1 = cc in omega arith

  among_padded : (p : ℕ) (places : List ℕ) → Among p (padded file places) → Among p places × Longer p
  unfolding Among padded
  among_padded p [] m = absurd m
  among_padded p (q ∷ places) m = go (among-append p (wrong_at (not (eqb (pad_of (seven_at file q) q) 0)) q) (padded file places) m) (λ x. among_padded p places x) where
    go : Among p (wrong_at (not (eqb (pad_of (seven_at file q) q) 0)) q) ⊎ Among p (padded file places) → (Among p (padded file places) → Among p places × Longer p) → ((q ≡ p) ⊎ Among p places) × Longer p
    go (inl x) f =
        let y = wrong-among (not (eqb (pad_of (seven_at file q) q) 0)) q p x in
        (inl y.1, λ z. not_zero (pad_of (seven_at file q) q) y.0 (rw y.1 z))
    go (inr x) f = let y = f x in (inr y.0, y.1)

  padded_among : (p : ℕ) (places : List ℕ) → Among p places → Longer p → Among p (padded file places)
  unfolding Among padded
  padded_among p [] m h = absurd m
  padded_among p (q ∷ places) (inl e) h =
      append-among p (wrong_at (not (eqb (pad_of (seven_at file q) q) 0)) q) (padded file places)
      (inl (among-wrong (not (eqb (pad_of (seven_at file q) q) 0)) q p (ap not (ne_eqb (pad_of (seven_at file q) q) 0 (λ z. h (rw (← e) z)))) e))
  padded_among p (q ∷ places) (inr m) h = append-among p (wrong_at (not (eqb (pad_of (seven_at file q) q) 0)) q) (padded file places) (inr (padded_among p places m h))

  pad_is : (n p : ℕ) (b rest : List ℕ) → Seven n b → drop p file ≡ b ++ rest → pad_of (seven_at file p) p ≡ length b - length (shortest n)
  unfolding pad_of
  pad_is n p b rest s d = rw (number_is file n p b rest s d) (omega arith)

module _ (es : List EnumEntry) (ft : FileTree) (readers : List Target) (file : List ℕ) (rows : List Row) (w : FileLays es ft file) where
  abbrev At : ℕ → Type 0
  At = PaddedAt ft readers file rows

  sound : (p : ℕ) → Among p (padded file (number_places file (file_pieces ft) 10)) → At p
  unfolding Written EndsAt
  sound p m =
      let x = among_padded file p (number_places file (file_pieces ft) 10) m in
      let y = among_places file p (file_pieces ft) 10 x.0 in
      let before = y.0 in
      let n = y.1 in
      let s = written-split before (number n ∷ y.2) (drop 10 file) (rw y.3 at (file_written es ft file w)) in
      let e : p ≡ 10 + length s.0 = sym y.4 ∙ written-end file before s.0 s.1 10 s.3 s.2 in
      let b = s.4.0 in
      let d : drop p file ≡ b ++ s.4.1 = there p s.0 s.1 b s.4.1 e s.2 s.4.2 in
      let z = pad_is file n p b s.4.1 s.4.3 d in
      let l = (shortest_is n b s.4.3).no_longer in
      (before, n, y.2, y.3, (s.0, s.1, s.2, s.3, e), b, s.4.1, d, s.4.3, longer (length (shortest n)) (length b) (λ q. x.1 (z ∙ q))) where
        there : (p : ℕ) (a c b rest : List ℕ) → p ≡ 10 + length a → drop 10 file ≡ a ++ c → c ≡ b ++ rest → drop p file ≡ b ++ rest
        there p a c b rest e d f =
            let g : drop 10 file ≡ (a ++ b) ++ rest = d ∙ ap (λ (l : List ℕ). a ++ l) f ∙ sym (append_assoc a b rest) in
            ap (λ (k : ℕ). drop k file) e ∙ seam file 10 a b rest g

        longer : (a b : ℕ) → (b - a ≡ 0 → ⊥) → a < b
        longer a b h = go (eqb (b - a) 0) refl where
          go : (t : Bool) → eqb (b - a) 0 ≡ t → a < b
          go true q = absurd (h (eqb-true (b - a) 0 q))
          go false q = let k = eqb-false (b - a) 0 q in omega arith

  complete : (p : ℕ) → At p → Among p (padded file (number_places file (file_pieces ft) 10))
  unfolding EndsAt
  complete p (before, n, after, e, (a, c, d, v, q), b, rest, f, s, l) =
      let z = pad_is file n p b rest s f in
      let m : end_of file before 10 ≡ p = written-end file before a c 10 v d ∙ sym q in
      padded_among file p (number_places file (file_pieces ft) 10) (rw e (rw m at (places_among file before n after 10))) (λ k. let h = sym z ∙ k in omega arith)

  -- 42
  pub numbers-lowest : Lowest At (first_place (padded file (file_places file (length ft.names) (file_rows es ft file w))))
  numbers-lowest =
      rw (file_places_lem es ft file w) (first_lowest At (padded file (number_places file (file_pieces ft) 10))
      (rise_least 10 (padded file (number_places file (file_pieces ft) 10)) (padded_rise file 10 (number_places file (file_pieces ft) 10)
      (numbers_rise file (file_pieces ft) (drop 10 file) [] 10 (file_written es ft file w) (sym (append-nil (drop 10 file)))))) sound complete)

-- Pieces, and the laws of the bytes that they may have. Assumes nothing.
use Rattle.std.specs.Prelude.{◌≡◌, true, false, ◌⊎◌, eqb}
use Rattle.std.proofs.Math.Path.{refl, sym, ap}
use Rattle.std.proofs.Common.{◌∙◌, inl, inr, arith, eq-eqb}
use mathlib.Core.List.{List, [], ◌∷◌, ◌++◌, append_assoc, append-nil}
use Prim.Native.Nat.{ℕ, zero, suc, ◌+◌}
use Rattle.std.proofs.Math.ListN.{length, drop}
use Rattle.layout.specs.EnumList.{EnumEntry}
use Rattle.layout.specs.Number.{Seven, little}
use Rattle.layout.specs.Text.{ascii}
use Rattle.layout.specs.Target.{Target}
use Rattle.layout.specs.Tree.{Trees, none, tree, count, told}
use Rattle.layout.specs.Slot.{Slot, raw, object, reference, leaf, Plan, stop, put}
use Rattle.layout.specs.Layout.{Raw, Value, Lays}
use Rattle.layout.specs.Resource.{Resource}
use Rattle.layout.specs.File.{FileTree, shared_of, header, objects_plan, Entries, FileLays}
use Rattle.layout.specs.Shortest.{numbered, body}
use Rattle.reading.specs.Seven.{seven_at}
use Rattle.reading.specs.Rules.{null_id}
use Rattle.numbers.specs.Padded.{past}
use Rattle.places.specs.Padding.{reference-numbered}
use Rattle.shortest.specs.Short.{Form, plain as Plain-Form, text, raw_form, form_numbered, leaf-body}
use Rattle.shortest.specs.Places.{number_is, split}
use Rattle.profile_places.specs.Pieces.{Piece, plain, number, Written, id_pieces, body_pieces, tree_pieces, entries_pieces, file_pieces}

pub written-append : (p q : List Piece) (a b : List ℕ) → Written p a → Written q b → Written (p ++ q) (a ++ b)
unfolding Written
written-append [] q a b v w = rw v w
written-append (plain c ∷ p) q a b (rest, e, v) w = (rest ++ b, rw e (append_assoc c rest b), written-append p q rest b v w)
written-append (number n ∷ p) q a b (c, rest, e, s, v) w = (c, rest ++ b, rw e (append_assoc c rest b), s, written-append p q rest b v w)

pub written-split : (p q : List Piece) (bs : List ℕ) → Written (p ++ q) bs → (a : List ℕ) × (b : List ℕ) × (bs ≡ a ++ b) × Written p a × Written q b
unfolding Written
written-split [] q bs w = ([], bs, refl, refl, w)
written-split (plain c ∷ p) q bs (rest, e, w) =
    let s = written-split p q rest w in
    (c ++ s.0, s.1, e ∙ ap (λ (l : List ℕ). c ++ l) s.2 ∙ sym (append_assoc c s.0 s.1), (s.0, refl, s.3), s.4)
written-split (number n ∷ p) q bs (c, rest, e, f, w) =
    let s = written-split p q rest w in
    (c ++ s.0, s.1, e ∙ ap (λ (l : List ℕ). c ++ l) s.2 ∙ sym (append_assoc c s.0 s.1), (c, s.0, refl, f, s.3), s.4)

written-number : (n : ℕ) (b : List ℕ) → Seven n b → Written (number n ∷ []) b
unfolding Written
written-number n b s = (b, [], sym (append-nil b), s, refl)

written-plain : (b : List ℕ) → Written (plain b ∷ []) b
unfolding Written
written-plain b = ([], sym (append-nil b), refl)

-- ---- A file tree's bytes are bytes of its pieces

no_id : (kind id : ℕ) → numbered kind id ≡ false → id_pieces kind id ≡ []
unfolding id_pieces
no_id kind id e = rw e

an_id : (kind id : ℕ) → numbered kind id ≡ true → id_pieces kind id ≡ number id ∷ []
unfolding id_pieces
an_id kind id e = rw e

no_count : (kind : ℕ) (own : List ℕ) (n : ℕ) → eqb kind 13 ≡ false → body_pieces kind own n ≡ plain (body kind own n) ∷ []
unfolding body_pieces
no_count kind own n e = rw e

a_count : (kind : ℕ) (own : List ℕ) (n : ℕ) → kind ≡ 13 → body_pieces kind own n ≡ number (length own) ∷ plain own ∷ []
unfolding body_pieces
a_count kind own n e = rw (eq-eqb kind 13 e)

pub form_written : {P : List ℕ → Type 0} {kind n : ℕ} {own head : List ℕ} → Form P kind own n head → Written (body_pieces kind own n) head
unfolding Written
form_written {kind = kind} {n = n} {own = own} {head = head} (Plain-Form m q e w) = rw (no_count kind own n q, ← e) (written-plain head)
form_written {kind = kind} {n = n} {own = own} {head = head} (text q nb s e f) = rw (a_count kind own n q) (nb, own, e, s, ([], sym (append-nil own), refl))

module _ (readers : List Target) (refers : ℕ → ℕ → Type 0) (cs : Trees)
    (h : (plan : Plan) (b : List ℕ) → Lays readers refers plan cs b → Written (tree_pieces cs) b) where
  abbrev Under : Plan → List ℕ → Type 0
  Under plan b = Lays readers refers plan cs b

  raw_written : (t : Target) (kind : ℕ) (own bs : List ℕ) → Raw Under t kind own cs bs → Written (body_pieces kind own (count cs) ++ tree_pieces cs) bs
  raw_written t kind own bs w =
      rw w.parts (written-append (body_pieces kind own (count cs)) (tree_pieces cs) w.head w.children (form_written (raw_form readers refers cs t kind own bs w)) (h w.plan w.children w.laid))

  -- a value that is an id and nothing more
  bare_written : (kind id : ℕ) (bs : List ℕ) → (kind ≡ 0) ⊎ (kind ≡ 36) → numbered kind id ≡ true → Seven id bs → Written (id_pieces kind id ++ (body_pieces kind [] 0 ++ [])) bs
  unfolding body_pieces body Written
  bare_written kind id bs (inl e) m s = rw (an_id kind id m, e) (bs, [], sym (append-nil bs), s, ([], refl, refl))
  bare_written kind id bs (inr e) m s = rw (an_id kind id m, e) (bs, [], sym (append-nil bs), s, ([], refl, refl))

  pub value_written : (x : Slot) (kind id : ℕ) (own bs : List ℕ) → Value readers refers Under x kind id own cs bs → Written (id_pieces kind id ++ (body_pieces kind own (count cs) ++ tree_pieces cs)) bs
  unfolding Value numbered tree_pieces count
  value_written (raw t) kind id own bs w =
      rw (w.0, no_id kind 0 (form_numbered (raw_form readers refers cs t kind own bs w.1))) (raw_written t kind own bs w.1)
  value_written (object t) kind id own bs (inl w) = rw (w.kind_of_lem, w.id_of, w.empty, w.childless) (bare_written 0 0 bs (inl refl) refl w.number)
  value_written (object t) kind zero own bs (inr w) = absurd (null_id readers w.target w.reader)
  value_written (object t) kind (suc i) own bs (inr w) =
      rw (an_id kind (suc i) refl, w.parts) (written-append (number (suc i) ∷ []) (body_pieces kind own (count cs) ++ tree_pieces cs) w.number w.value
      (written-number (suc i) w.number w.numbered) (raw_written w.target kind own w.value w.laid))
  value_written (reference t) kind id own bs w = rw (w.kind_of_lem, w.empty, w.childless) (bare_written 36 id bs (inr refl) (reference-numbered id) w.number)
  value_written (leaf x) kind id own bs w =
      let e = leaf-body x kind own bs w.2 in
      rw (w.0, w.1, no_id kind 0 e.1, no_count kind own 0 e.2, e.0) (written-plain bs)

pub trees_written : (readers : List Target) (refers : ℕ → ℕ → Type 0) (plan : Plan) (ts : Trees) (bs : List ℕ) → Lays readers refers plan ts bs → Written (tree_pieces ts) bs
unfolding Lays tree_pieces Written
trees_written readers refers stop none bs w = w
trees_written readers refers (put x go) none bs w = absurd w
trees_written readers refers stop (tree k i own cs rest) bs w = absurd w
trees_written readers refers (put x go) (tree k i own cs rest) bs w =
    let v = value_written readers refers cs (λ plan b y. trees_written readers refers plan cs b y) x k i own w.0 w.3 in
    let r = trees_written readers refers (go (told k own cs)) rest w.1 w.4 in
    rw w.2 (written-append (id_pieces k i ++ (body_pieces k own (count cs) ++ tree_pieces cs)) (tree_pieces rest) w.0 w.1 v r)

module _ (es : List EnumEntry) where
  pub entries-written : (names : List (List ℕ)) (readers : List Target) (bs : List ℕ) → Entries es names readers bs → Written (entries_pieces names) bs
  unfolding Entries entries_pieces Written
  entries-written [] [] bs w = w
  entries-written [] (t ∷ readers) bs w = absurd w
  entries-written (name ∷ names) [] bs w = absurd w
  entries-written (name ∷ names) (t ∷ readers) bs (b, rest, e, y, w) = (
    y.number,
    (name ++ little 4 0) ++ rest,
    e ∙ ap (λ (l : List ℕ). l ++ rest) y.parts ∙ append_assoc y.number (name ++ little 4 0) rest,
    y.numbered,
    (rest, refl, entries-written names readers rest w),
  )

  -- all behind the header
  pub file_written : (ft : FileTree) (file : List ℕ) → FileLays es ft file → Written (file_pieces ft) (drop 10 file)
  unfolding file_pieces header ascii little Written
  file_written ft file w =
      let l = w.lists in
      let shared = count (shared_of ft.objects) in
      let t = trees_written w.readers (Resource (shared_of ft.objects)) (objects_plan shared) ft.objects w.values w.laid in
      let s : Written (number shared ∷ tree_pieces ft.objects) (l.shared_number ++ w.values) = (l.shared_number, w.values, refl, l.shared_numbered, t) in
      let e = written-append (entries_pieces ft.names) (number shared ∷ tree_pieces ft.objects) l.entries (l.shared_number ++ w.values) (entries-written ft.names w.readers l.entries l.listed) s in
      let d : drop 10 file ≡ l.number ++ (l.entries ++ (l.shared_number ++ w.values)) =
      ap (drop 10) w.parts ∙ ap (λ (x : List ℕ). x ++ w.values) l.parts ∙ append_assoc l.number (l.entries ++ l.shared_number) w.values
      ∙ ap (λ (x : List ℕ). l.number ++ x) (append_assoc l.entries l.shared_number w.values) in
      (l.number, l.entries ++ (l.shared_number ++ w.values), d, l.numbered, e)

-- ---- Where pieces end, and where their numbers stand, in a file

module _ (file : List ℕ) where
  unfoldable pub end_of : List Piece → (at : ℕ) → ℕ
  end_of [] at = at
  end_of (plain b ∷ pieces) at = end_of pieces (at + length b)
  end_of (number n ∷ pieces) at = end_of pieces (past (seven_at file at) at)

  unfoldable pub number_places : List Piece → (at : ℕ) → List ℕ
  number_places [] at = []
  number_places (plain b ∷ pieces) at = number_places pieces (at + length b)
  number_places (number n ∷ pieces) at = at ∷ number_places pieces (past (seven_at file at) at)

  pub end-append : (p q : List Piece) (at : ℕ) → end_of (p ++ q) at ≡ end_of q (end_of p at)
  unfolding end_of
  end-append [] q at = refl
  end-append (plain b ∷ p) q at = end-append p q (at + length b)
  end-append (number n ∷ p) q at = end-append p q (past (seven_at file at) at)

  pub places_append : (p q : List Piece) (at : ℕ) → number_places (p ++ q) at ≡ number_places p at ++ number_places q (end_of p at)
  unfolding end_of number_places
  places_append [] q at = refl
  places_append (plain b ∷ p) q at = places_append p q (at + length b)
  places_append (number n ∷ p) q at = ap (λ (l : List ℕ). at ∷ l) (places_append p q (past (seven_at file at) at))

  -- what the file has there ends there
  pub written-end : (p : List Piece) (bs rest : List ℕ) (at : ℕ) → Written p bs → drop at file ≡ bs ++ rest → end_of p at ≡ at + length bs
  unfolding Written end_of past
  written-end [] bs rest at w d = omega (arith, ap length w)
  written-end (plain b ∷ p) bs rest at (c, e, w) d =
      let s = split file at bs b c rest e d in
      omega (arith, written-end p c rest (at + length b) w s.1, s.2)
  written-end (number n ∷ p) bs rest at (b, c, e, v, w) d =
      let s = split file at bs b c rest e d in
      let r = number_is file n at b (c ++ rest) v s.0 in
      rw r (omega (arith, written-end p c rest (at + length b) w s.1, s.2))

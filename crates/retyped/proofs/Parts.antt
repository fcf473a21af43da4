-- The parts of rows and the texts of a file: each row's part encloses a text or has none of its bytes; so where two files differ in typed text alone, the
-- parts of a row differ only in texts that it encloses (02, Req 12). Assumes nothing.
use Rattle.std.specs.Prelude.{◌≡◌, Bool, ◌||◌, ◌⊎◌, ltb, leb, eqb, get_or, take, drop}
use Rattle.std.proofs.Math.Path.{refl, sym}
use Rattle.std.proofs.Common.{ap, subst, ◌∙◌, inr, length-drop, length-take, ext_get_or, get_or-drop, get_or-take, eq-eqb}
use Rattle.std.proofs.Math.Bool.{true, false}
use mathlib.Core.List.{List, [], ◌∷◌, ◌++◌}
use Rattle.std.proofs.Math.Logic.{inl}
use Prim.Native.Nat.{ℕ, zero, suc, ◌+◌, ◌-◌, ◌<◌, ◌≤◌, min}
use native.Mathlib.Omega.{arith}
use Rattle.std.proofs.Math.ListN.{length}
use Rattle.laws.specs.Small.{differ}
use Rattle.laws.specs.Ok.{ok_weaken}
use Rattle.layout.specs.Head.{Head}
use Rattle.layout.specs.Target.{Target, fixed, char, string, object as anything, texture, texture_2d, sprite_font, page, index_buffer, vertex_declaration, vertex_buffer, model, mesh, enum, nullable, array, list, dictionary, kind_of, mesh_kind}
use Rattle.layout.specs.Tree.{Trees, none, tree, count, told_of}
use Rattle.layout.specs.Slot.{leaf_kind, Slot, raw, object, reference, leaf, Plan, stop, put}
use Rattle.layout.specs.File.{objects_plan}
use Rattle.layout.specs.Rows.{Row, row}
use Rattle.layout.specs.Table.{room_of}
use Rattle.reading.specs.Answer.{Answer, refused, read, Ok, not_read, is_read, ok_bind, ok_check}
use Rattle.reading.specs.Reads.{Small, next_of}
use Rattle.reading.specs.Seven.{seven_at}
use Rattle.reading.specs.Rules.{Found, missing, found, reader, serves}
use Rattle.reading.specs.Font.{font_ok}
use Rattle.reading.specs.Heads.{Opening, head_at, leaf_at}
use Rattle.reading.proofs.Heads.{head_reads}
use Rattle.reading.specs.Drafts.{Draft, drafted, wanting, bare}
use Rattle.reading.specs.Walk.{Taken, Outcome, done, point, before, sequence, raw_at, by_reader, object_at, value_at, walk}
use Rattle.reading.specs.File.{Named, header_at, lists_at, objects_at, root_kinds, finished, Loaded, file_at, accepted, to_load, load_of}
use Rattle.reading.specs.References.{judged-sound}
use Rattle.retyped.specs.Texts.{Span, SequenceText, HeadText, RawText, ReaderText, ObjectText, ValueText, WalkText, FileText, InText, Retyped}
use Rattle.retyped.specs.Twin.{Twin, is_behind}
use Rattle.retyped.specs.Leaves.{text_here, seven-twin, leaf-twin}
use Rattle.retyped.proofs.Leaves.{head-twin}
use Rattle.retyped.specs.Alike.{TakenAlike}
use Rattle.retyped.specs.Walks.{sequence-twin}
use Rattle.retyped.proofs.Walks.{walk-twin}
use Rattle.retyped.specs.Parts.{Apart, Each, Encloses, NumbersBefore, PartAlike, bytes_same, each_all, each_append, each_map, is_signed, was_read, with_read}

-- ---- Rows and texts of a walk

-- a row's part stands between two places
abbrev Between : (from e : ℕ) → Row → Type 0
Between from e r = (from ≤ r.first) × (r.first + r.bytes ≤ e)

-- a row's part has nothing of a text, or encloses it and is no signed number; if it is an object of type String, behind type id and count
abbrev Meets : List ℕ → Span → Row → Type 0
Meets f x r = Apart r x ⊎ (Encloses r x × (is_signed r.kind ≡ false) × (r.kind ≡ 13 → 0 < r.detail → NumbersBefore f r x.0))

-- rows of values that were read: they stand from a place to the end, and each meets each text in a lawful way
abbrev Frame : List ℕ → (Span → Type 0) → (from : ℕ) → Taken → ℕ → Type 0
Frame f T from a e = Each (Between from e) (bare a.1) × ((x : Span) → T x → Each (Meets f x) (bare a.1))

abbrev Framed : List ℕ → (Span → Type 0) → (from : ℕ) → Outcome → Type 0
Framed f T from o = Ok (Frame f T from) o

-- one row alone, of a value without texts
alone : (f : List ℕ) (d : Draft) (from e used : ℕ) (ts : Trees) → Between from e d.row → Framed f (λ x. ⊥) from (done e used (d ∷ []) ts)
unfolding Each
alone f d from e used ts w = is_read {a = (used, d ∷ [], ts)} ((w, tt), λ x t. absurd t)

-- what a signed lookup or a text lookup takes has nothing below it
bare-head : (f : List ℕ) → Small f → (t : Target) (at : ℕ) (h : Opening) (n : ℕ) → head_at f t at ≡ read h n → (is_signed (kind_of t) || eqb (kind_of t) 13) ≡ true → h.1 ≡ stop
unfolding Head kind_of mesh_kind is_signed
bare-head f small (fixed k) at h n q e = (next_of (head_reads f (fixed k)) small at q).laid.2
bare-head f small char at h n q e = differ cc
bare-head f small string at h n q e = (next_of (head_reads f string) small at q).laid.1
bare-head f small anything at h n q e = differ cc
bare-head f small (enum name z) at h n q e = differ cc
bare-head f small (nullable t) at h n q e = differ cc
bare-head f small (array t) at h n q e = differ cc
bare-head f small (list t) at h n q e = differ cc
bare-head f small (dictionary k v) at h n q e = differ cc
bare-head f small texture at h n q e = differ cc
bare-head f small texture_2d at h n q e = differ cc
bare-head f small sprite_font at h n q e = differ cc
bare-head f small page at h n q e = differ cc
bare-head f small (mesh index_buffer) at h n q e = differ cc
bare-head f small (mesh vertex_declaration) at h n q e = differ cc
bare-head f small (mesh vertex_buffer) at h n q e = differ cc
bare-head f small (mesh model) at h n q e = differ cc

-- nor is a text one
string_unsigned : (t : Target) → t ≡ string → is_signed (kind_of t) ≡ false
unfolding kind_of is_signed
string_unsigned t e = rw e refl

stop-none : (step : Slot → ℕ → ℕ → Outcome) (text : Slot → ℕ → ℕ → Span → Type 0) (at used : ℕ) (x : Span) → SequenceText step text stop at used x → ⊥
unfolding SequenceText
stop-none step text at used x t = t

module _ (f : List ℕ) where
  module _ (step : Slot → ℕ → ℕ → Outcome) (text : Slot → ℕ → ℕ → Span → Type 0)
      (run : (y : Slot) (at used : ℕ) → Twin f f TakenAlike (text y at used) (text y at used) at (step y at used) (step y at used))
      (framed : (y : Slot) (at used : ℕ) → Framed f (text y at used) at (step y at used)) where
    -- a value's rows before those of the values behind it
    joined : (y : Slot) (go : ℕ → Plan) (at used : ℕ) (a : Taken) (n : ℕ) (b : Taken) (e : ℕ) → step y at used ≡ read a n → Frame f (text y at used) at a n
        → sequence step (go (told_of a.2)) n a.0 ≡ read b e → Frame f (SequenceText step text (go (told_of a.2)) n a.0) n b e
        → Frame f (λ x. text y at used x ⊎ ((a : Taken) × (n : ℕ) × (step y at used ≡ read a n) × SequenceText step text (go (told_of a.2)) n a.0 x)) at (b.0, a.1 ++ b.1, before a.2 b.2) e
    joined y go at used a n b e q w p v =
        let s = sequence-twin f f step step text text run (go (told_of a.2)) n a.0 in
        let m : n ≤ e = s.ahead e (is_behind (sequence step (go (told_of a.2)) n a.0) b e p e (omega arith)) in
        let k : at ≤ n = (run y at used).ahead n (is_behind (step y at used) a n q n (omega arith)) in
        (each_append (Between at e) a.1 b.1 (each_map a.1 (λ r h. (h.0, omega (arith, h.1))) w.0) (each_map b.1 (λ r h. (omega (arith, h.0), h.1)) v.0), by) where
          by : (x : Span) → (text y at used x ⊎ ((a : Taken) × (n : ℕ) × (step y at used ≡ read a n) × SequenceText step text (go (told_of a.2)) n a.0 x)) → Each (Meets f x) (bare (a.1 ++ b.1))
          by x (inl t) =
              let l : x.0 + x.1 ≤ n = ((run y at used).lies x t).1 n (is_behind (step y at used) a n q n (omega arith)) in
              each_append (Meets f x) a.1 b.1 (w.1 x t) (each_map b.1 (λ r h. inl (inr (omega (arith, h.0)))) v.0)
          by x (inr u) =
              let z : read u.0 u.1 ≡ read a n = sym u.2 ∙ q in
              let e₁ : u.0 ≡ a = cc in
              let e₂ : u.1 ≡ n = cc in
              let t : SequenceText step text (go (told_of a.2)) n a.0 x = rw (e₁, e₂) at u.3 in
              let l : n ≤ x.0 = ((sequence-twin f f step step text text run (go (told_of a.2)) n a.0).lies x t).0 in
              each_append (Meets f x) a.1 b.1 (each_map a.1 (λ r h. inl (inl (omega (arith, h.1)))) w.0) (v.1 x t)

    sequence_framed : (plan : Plan) (at used : ℕ) → Framed f (SequenceText step text plan at used) at (sequence step plan at used)
    unfolding sequence SequenceText Each
    sequence_framed stop at used = is_read {a = (used, [], none)} (tt, λ x w. absurd w)
    sequence_framed (put y go) at used =
        ok_bind (with_read (framed y at used)) (λ a n w. ok_bind (with_read (sequence_framed (go (told_of a.2)) n a.0)) (λ b e v.
        is_read {a = (b.0, a.1 ++ b.1, before a.2 b.2)} (joined y go at used a n b e w.1 w.0 v.1 v.0)))

  module _ (small : Small f) (readers : List Target) (shared room : ℕ) where
    module _ (below : Plan → ℕ → ℕ → Outcome) (text : Plan → ℕ → ℕ → Span → Type 0)
        (run : (plan : Plan) (at used : ℕ) → Twin f f TakenAlike (text plan at used) (text plan at used) at (below plan at used) (below plan at used))
        (framed : (plan : Plan) (at used : ℕ) → Framed f (text plan at used) at (below plan at used))
        (bare_stop : (at used : ℕ) (x : Span) → text stop at used x → ⊥) where
      -- what has a text below it is neither a signed number nor a String
      above : (t : Target) (at used : ℕ) (h : Opening) (n : ℕ) (x : Span) → head_at f t at ≡ read h n → text h.1 n used x → (is_signed (kind_of t) ≡ false) × (eqb (kind_of t) 13 ≡ false)
      above t at used h n x q s = go (is_signed (kind_of t)) (eqb (kind_of t) 13) refl where
        go : (b c : Bool) → (is_signed (kind_of t) || eqb (kind_of t) 13) ≡ (b || c) → (b ≡ false) × (c ≡ false)
        go true c e = absurd (bare_stop n used x (rw (bare-head f small t at h n q e) at s))
        go false true e = absurd (bare_stop n used x (rw (bare-head f small t at h n q e) at s))
        go false false e = (refl, refl)

      -- a value's row before those below it: it encloses all that is below
      headed : (t : Target) (first at used parent id branch : ℕ) (h : Opening) (n : ℕ) (a : Taken) (e : ℕ) (ts : Trees) → first ≤ at → (0 < id → seven_at f first ≡ read id at) → head_at f t at ≡ read h n
          → below h.1 n (suc used) ≡ read a e → Frame f (text h.1 n (suc used)) n a e
          → Frame f (RawText f readers shared room text t at used) first (a.0, drafted (row (kind_of t) first (e - first) (count a.2) parent id branch) ∷ a.1, ts) e
      unfolding RawText HeadText Each
      headed t first at used parent id branch h n a e ts l o q p w =
          let k : at ≤ n = (head-twin f f small refl t at).ahead n (is_behind (head_at f t at) h n q n (omega arith)) in
          let m : n ≤ e = (run h.1 n (suc used)).ahead e (is_behind (below h.1 n (suc used)) a e p e (omega arith)) in
          (((omega arith, omega arith), each_map a.1 (λ r b. (omega (arith, b.0), b.1)) w.0), by) where
            by : (x : Span) → (HeadText f t at x ⊎ ((h : Opening) × (next : ℕ) × (head_at f t at ≡ read h next) × text h.1 next (suc used) x))
                → Meets f x (row (kind_of t) first (e - first) (count a.2) parent id branch) × Each (Meets f x) (bare a.1)
            by x (inl u) =
                let hd = (head-twin f f small refl t at).lies x u in
                let i : x.0 + x.1 ≤ n = hd.1 n (is_behind (head_at f t at) h n q n (omega arith)) in
                let m : n ≤ e = (run h.1 n (suc used)).ahead e (is_behind (below h.1 n (suc used)) a e p e (omega arith)) in
                let v = text_here f at x (subst (λ z. HeadText f z at x) u.0 u) in
                let count : 0 < id → NumbersBefore f (row (kind_of t) first (e - first) (count a.2) parent id branch) x.0 = λ i. (id, at, v.0, v.1, o i, v.2, omega (arith, v.3.1.0)) in
                (inr ((omega (arith, hd.0), omega arith), string_unsigned t u.0, λ z. count), each_map a.1 (λ r b. inl (inr (omega (arith, b.0)))) w.0)
            by x (inr u) =
                let z : read u.0 u.1 ≡ read h n = sym u.2 ∙ q in
                let e₁ : u.0 ≡ h = cc in
                let e₂ : u.1 ≡ n = cc in
                let s : text h.1 n (suc used) x = rw (e₁, e₂) at u.3 in
                let k : at ≤ n = (head-twin f f small refl t at).ahead n (is_behind (head_at f t at) h n q n (omega arith)) in
                let i = (run h.1 n (suc used)).lies x s in
                let j : x.0 + x.1 ≤ e = i.1 e (is_behind (below h.1 n (suc used)) a e p e (omega arith)) in
                let no = above t at (suc used) h n x q s in
                (inr ((omega (arith, i.0), omega arith), no.0, λ z d. let y : true ≡ false = sym (eq-eqb (kind_of t) 13 z) ∙ no.1 in differ cc), w.1 x s)

      raw_framed : (t : Target) (first at used parent id : ℕ) → first ≤ at → (0 < id → seven_at f first ≡ read id at) → Framed f (RawText f readers shared room text t at used) first (raw_at f readers shared room below t first at used parent id)
      unfolding raw_at
      raw_framed t first at used parent id l o =
          ok_bind (was_read (head_at f t at)) (λ h n q. ok_bind (with_read (framed h.1 n (suc used))) (λ a e w. ok_check (font_ok point t a.2) 22 at _ (λ b.
          is_read {a = (a.0, drafted (row (kind_of t) first (e - first) (count a.2) parent id (a.0 - used)) ∷ a.1, tree (kind_of t) id h.0 a.2 none)}
          (headed t first at used parent id (a.0 - used) h n a e (tree (kind_of t) id h.0 a.2 none) l o q w.1 w.0))))

      reader_framed : (u : Found) (t : Target) (id at next used parent : ℕ) → at ≤ next → seven_at f at ≡ read id next
          → Framed f (ReaderText f readers shared room u text t next used) at (by_reader f readers shared room u below t id at next used parent)
      unfolding by_reader ReaderText
      reader_framed missing t id at next used parent l q = not_read
      reader_framed (found u) t id at next used parent l q =
          ok_check (serves t u) 14 at _ (λ b. ok_weaken (raw_framed u at next used parent id l (λ i. q)) (λ a e w. (w.0, λ x t. w.1 x t.1)))

      object_framed : (t : Target) (id at next used parent : ℕ) → at ≤ next → seven_at f at ≡ read id next
          → Framed f (ObjectText f readers shared room text t id next used) at (object_at f readers shared room below t id at next used parent)
      unfolding object_at ObjectText
      object_framed t zero at next used parent l q = alone f (drafted (row 0 at (next - at) 0 parent 0 1)) at next (suc used) (tree 0 0 [] none none) (omega arith, omega arith)
      object_framed t (suc i) at next used parent l q = reader_framed (reader readers (suc i)) t (suc i) at next used parent l q

      seven_ahead : (at id n : ℕ) → seven_at f at ≡ read id n → at ≤ n
      seven_ahead at id n q = (seven-twin f f small refl at).ahead n (is_behind (seven_at f at) id n q n (omega arith))

      value_framed : (y : Slot) (at used parent : ℕ) → Framed f (ValueText f readers shared room text y at used) at (value_at f readers shared room below y at used parent)
      unfolding value_at ValueText
      value_framed (raw t) at used parent = raw_framed t at at used parent 0 (omega arith) (λ i. absurd (omega arith))
      value_framed (object t) at used parent =
          ok_bind (was_read (seven_at f at)) (λ id n q. ok_weaken (object_framed t id at n used parent (seven_ahead at id n q) q) (λ a e w. (
            w.0,
            λ x v.
                let z : read v.0 v.1 ≡ read id n = sym v.2 ∙ q in
                let e₁ : v.0 ≡ id = cc in
                let e₂ : v.1 ≡ n = cc in
                w.1 x (rw (e₁, e₂) at v.3),
          )))
      value_framed (reference k) at used parent =
          ok_bind (was_read (seven_at f at)) (λ id n q. ok_check (leb id shared) 16 at _ (λ b. let l = seven_ahead at id n q in
          alone f (wanting k (row 36 at (n - at) 0 parent id 1)) at n (suc used) (tree 36 id [] none none) (omega arith, omega arith)))
      value_framed (leaf l) at used parent =
          ok_bind (was_read (leaf_at f l at)) (λ own n q. let m : at ≤ n = (leaf-twin f f small refl l at).ahead n (is_behind (leaf_at f l at) own n q n (omega arith)) in
          alone f (drafted (row (leaf_kind l) at (n - at) 0 parent 0 1)) at n (suc used) (tree (leaf_kind l) 0 own none none) (omega arith, omega arith))

    walk_framed : (d : ℕ) (y : Slot) (at used parent : ℕ) → Framed f (WalkText f readers shared room d y at used) at (walk f readers shared room d y at used parent)
    unfolding walk WalkText
    walk_framed zero y at used parent = not_read
    walk_framed (suc d) y at used parent =
        let step : Slot → ℕ → ℕ → Outcome = λ y b v. walk f readers shared room d y b v (suc used) in
        let text : Slot → ℕ → ℕ → Span → Type 0 = λ y b v z. WalkText f readers shared room d y b v z in
        let run : (y : Slot) (b v : ℕ) → Twin f f TakenAlike (text y b v) (text y b v) b (step y b v) (step y b v) = λ y b v. walk-twin f f small refl readers shared room d y b v (suc used) in
        ok_check (ltb used room) 19 at _ (λ b.
        ok_weaken (value_framed (λ plan a u. sequence step plan a u) (λ plan a u z. SequenceText step text plan a u z) (λ plan a u. sequence-twin f f step step text text run plan a u)
        (λ plan a u. sequence_framed step text run (λ y b v. walk_framed d y b v (suc used)) plan a u) (stop-none step text) y at used parent) (λ a e w. (w.0, λ x t. w.1 x t.1)))

  -- the rows of a file that was read
  file_framed : (name_of : ℕ → List ℕ → Named) → Small f → (room : ℕ) → Ok (λ l e. (x : Span) → FileText name_of room f x → Each (Meets f x) (bare l.rows)) (file_at name_of f room)
  unfolding file_at objects_at finished FileText
  file_framed name_of small room =
      ok_bind (was_read (header_at f)) (λ h at q. ok_bind (was_read (lists_at name_of f at)) (λ l first p.
      let step : Slot → ℕ → ℕ → Outcome = λ y a u. walk f l.1 l.2 room 32 y a u 0 in
      let text : Slot → ℕ → ℕ → Span → Type 0 = λ y a u z. WalkText f l.1 l.2 room 32 y a u z in
      ok_bind (sequence_framed step text (λ y a u. walk-twin f f small refl l.1 l.2 room 32 y a u 0) (λ y a u. walk_framed small l.1 l.2 room 32 y a u 0) (objects_plan l.2) first 0) (λ a e w.
      ok_check (eqb e (length f)) 20 e _ (λ b. judged-sound (drop 1 (root_kinds a.1)) a.1 _ (λ k.
      is_read {a = record { tree = record { platform = h.0; flags = h.1; names = l.0; objects = a.2 }; rows = a.1; readers = length l.1; shared = l.2 }} (λ x v. w.1 x (among h at q l first p x v)))))))
    where
      among : (h : ℕ × ℕ) (at : ℕ) → header_at f ≡ read h at → (l : List (List ℕ) × List Target × ℕ) (first : ℕ) → lists_at name_of f at ≡ read l first → (x : Span) → FileText name_of room f x
          → SequenceText (λ y a u. walk f l.1 l.2 room 32 y a u 0) (λ y a u z. WalkText f l.1 l.2 room 32 y a u z) (objects_plan l.2) first 0 x
      among h at q l first p x v =
          let z : read v.0 v.1 ≡ read h at = sym v.2 ∙ q in
          let e₁ : v.1 ≡ at = cc in
          let u = v.3 in
          let y : read u.0 u.1 ≡ read l first = sym u.2 ∙ (rw (← e₁) at p) in
          let e₂ : u.0 ≡ l = cc in
          let e₃ : u.1 ≡ first = cc in
          rw (e₂, e₃) at u.3

-- ---- The statement

each_swap : (T : Span → Type 0) (P : Span → Row → Type 0) (rows : List Row) → ((x : Span) → T x → Each (P x) rows) → Each (λ r. (x : Span) → T x → P x r) rows
unfolding Each
each_swap T P [] h = tt
each_swap T P (r ∷ rows) h = ((λ x t. (h x t).0), each_swap T P rows (λ x t. (h x t).1))

module _ (name_of : ℕ → List ℕ → Named) (f g : List ℕ) (room : ℕ) where
  module _ (t : Retyped (FileText name_of room) f g) (r : Row) (h : (x : Span) → FileText name_of room f x → Meets f x r) where
    -- a byte of a row's part is the same in both, or in a text that the part encloses; then the row is no signed number, and a String has type id and count before
    abbrev Byte : (i : ℕ) → Type 0
    Byte i =
        (get_or f i 0 ≡ get_or g i 0)
        ⊎ ((t : InText (FileText name_of room) f g i) × Encloses r t.span × (is_signed r.kind ≡ false) × (r.kind ≡ 13 → 0 < r.detail → NumbersBefore f r t.span.0))

    part_byte : (i : ℕ) → r.first ≤ i → i < r.first + r.bytes → Byte i
    part_byte i l m = go (t.elsewhere i) where
      meets : (c : InText (FileText name_of room) f g i) → Meets f c.span r → Byte i
      meets c (inl (inl k)) = absurd (omega (arith, c.inside.0))
      meets c (inl (inr k)) = absurd (omega (arith, c.inside.1))
      meets c (inr k) = inr (c, k.0, k.1, k.2)

      go : (get_or f i 0 ≡ get_or g i 0) ⊎ InText (FileText name_of room) f g i → Byte i
      go (inl e) = inl e
      go (inr c) = meets c (h c.span c.typed)

    part_alike : PartAlike name_of f g room r
    part_alike = record {
      bytes = λ i l m. by (part_byte i l m);
      signed = λ e. bytes_same f g t.as_long r.first r.bytes (λ i l m. only e (part_byte i l m));
      text = λ k d i l m. counted k d (part_byte i l m);
    } where
      by : {i : ℕ} → Byte i → (get_or f i 0 ≡ get_or g i 0) ⊎ ((t : InText (FileText name_of room) f g i) × Encloses r t.span)
      by (inl e) = inl e
      by (inr c) = inr (c.0, c.1)

      only : {i : ℕ} → is_signed r.kind ≡ true → Byte i → get_or f i 0 ≡ get_or g i 0
      only e (inl q) = q
      only e (inr c) = let z : true ≡ false = sym e ∙ c.2 in differ cc

      counted : {i : ℕ} → r.kind ≡ 13 → 0 < r.detail → Byte i → (get_or f i 0 ≡ get_or g i 0) ⊎ NumbersBefore f r i
      counted k d (inl e) = inl e
      counted k d (inr c) = let w = c.3 k d in inr (w.0, w.1, w.2, w.3, w.4, w.5, omega (arith, w.6, c.0.inside.0))

-- so it is of every row of an accepted file
pub parts_same : (name_of : ℕ → List ℕ → Named) (f g : List ℕ) (words : ℕ) → Small f → Retyped (FileText name_of (room_of words)) f g
    → (rows : List Row) (readers shared : ℕ) → load_of name_of f words ≡ accepted rows readers shared → Each (PartAlike name_of f g (room_of words)) rows
unfolding load_of to_load
parts_same name_of f g words small t rows readers shared q = go (file_at name_of f (room_of words)) (file_framed f name_of small (room_of words)) q where
  go : (o : Answer Loaded) → Ok (λ l e. (x : Span) → FileText name_of (room_of words) f x → Each (Meets f x) (bare l.rows)) o → to_load o ≡ accepted rows readers shared
      → Each (PartAlike name_of f g (room_of words)) rows
  go (refused n p) w e = differ cc
  go (read l e) w z =
      let k : bare l.rows ≡ rows = cc in
      rw (← k) (each_all (bare l.rows) (λ r h. part_alike name_of f g (room_of words) t r h) (each_swap (FileText name_of (room_of words) f) (Meets f) (bare l.rows) (w.got refl)))

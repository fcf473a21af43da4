-- No String value is left out: the text of each String row of an accepted file is among the texts that its walk reads, wherever the value stands. Assumes
-- nothing.
use Rattle.std.specs.Prelude.{◌≡◌, ltb, leb, eqb, drop}
use Rattle.std.proofs.Math.Path.{refl, sym, ap, subst}
use Rattle.std.proofs.Common.{◌∙◌}
use mathlib.Core.List.{List, [], ◌∷◌, ◌++◌}
use Rattle.std.proofs.Math.Logic.{inl, inr}
use Prim.Native.Nat.{ℕ, zero, suc, ◌+◌, ◌-◌, ◌≤◌}
use native.Mathlib.Omega.{arith}
use Rattle.std.proofs.Math.ListN.{length, length-append}
use Rattle.laws.specs.Small.{differ}
use Rattle.laws.specs.Ok.{ok_weaken}
use Rattle.layout.specs.Fixed.{sizes}
use Rattle.layout.specs.Head.{Head, Textual}
use Rattle.layout.specs.Target.{Target, fixed, char, string, object as anything, texture, texture_2d, sprite_font, page, index_buffer, vertex_declaration, vertex_buffer, model, mesh, enum, nullable, array, list, dictionary, kind_of, mesh_kind}
use Rattle.layout.specs.Tree.{Trees, none, tree, count, told_of}
use Rattle.layout.specs.Slot.{Leaf, level, blob, numeric, bone_field, code_field, uint_field, field_kind, leaf_kind, Slot, raw, object, reference, leaf, Plan, stop, put}
use Rattle.layout.specs.File.{objects_plan}
use Rattle.layout.specs.Rows.{Row, row}
use Rattle.layout.specs.Table.{room_of}
use Rattle.reading.specs.Answer.{Answer, refused, read, check, Ok, not_read, is_read, ok_bind, ok_check}
use Rattle.reading.specs.Reads.{Small, next_of}
use Rattle.reading.specs.Seven.{seven_at, seven_next}
use Rattle.reading.specs.Rules.{Found, missing, found, reader, serves}
use Rattle.reading.specs.Font.{font_ok}
use Rattle.reading.specs.Heads.{Opening, fixed_head_at, head_at, leaf_at}
use Rattle.reading.proofs.Heads.{head_reads}
use Rattle.reading.specs.Drafts.{Draft, drafted, wanting, bare}
use Rattle.reading.specs.Walk.{Taken, Outcome, done, point, before, sequence, raw_at, by_reader, object_at, value_at, walk}
use Rattle.reading.specs.References.{judged-sound}
use Rattle.reading.specs.File.{Named, header_at, lists_at, objects_at, root_kinds, finished, Loaded, file_at, accepted, to_load, load_of}
use Rattle.retyped.specs.Texts.{Span, SequenceText, HeadText, RawText, ReaderText, ObjectText, ValueText, WalkText, FileText}
use Rattle.retyped.specs.Parts.{Each, each_map, each_append, with_read, was_read}
use Rattle.retyped.specs.Strings.{TextOf}

-- each String row has its text
abbrev Typed : (Span → Type 0) → Taken → ℕ → Type 0
Typed T a e = Each (λ r. r.kind ≡ 13 → TextOf T r) (bare a.1)

typed-map : {T U : Span → Type 0} (ds : List Draft) → ((x : Span) → T x → U x) → Each (λ r. r.kind ≡ 13 → TextOf T r) (bare ds) → Each (λ r. r.kind ≡ 13 → TextOf U r) (bare ds)
typed-map ds m w = each_map ds (λ r h k. let t = h k in (t.0, m t.0 t.1, t.2, t.3)) w

-- one row alone, of another kind
alone : (T : Span → Type 0) (d : Draft) (e used : ℕ) (ts : Trees) → (d.row.kind ≡ 13 → ⊥) → Ok (Typed T) (done e used (d ∷ []) ts)
unfolding Each
alone T d e used ts other = is_read {a = (used, d ∷ [], ts)} ((λ k. absurd (other k)), tt)

leaf_other : (l : Leaf) → leaf_kind l ≡ 13 → ⊥
unfolding field_kind
leaf_other (level z) e = omega arith
leaf_other (blob z) e = omega arith
leaf_other (numeric bone_field z r) e = omega arith
leaf_other (numeric code_field z r) e = omega arith
leaf_other (numeric uint_field z r) e = omega arith

module _ (f : List ℕ) where
  -- only a String's head is read for kind 13
  no_size : (k at : ℕ) (h : Opening) (n : ℕ) → k ≡ 13 → fixed_head_at f k at ≡ read h n → ⊥
  unfolding fixed_head_at sizes check
  no_size k at h n e q = let z : fixed_head_at f 13 at ≡ read h n = rw e at q in differ cc

  kind_string : (t : Target) (at : ℕ) (h : Opening) (n : ℕ) → head_at f t at ≡ read h n → kind_of t ≡ 13 → t ≡ string
  unfolding head_at kind_of mesh_kind
  kind_string (fixed k) at h n q e = absurd (no_size k at h n e q)
  kind_string char at h n q e = absurd (omega arith)
  kind_string string at h n q e = refl
  kind_string anything at h n q e = absurd (omega arith)
  kind_string (enum name z) at h n q e = absurd (omega arith)
  kind_string (nullable t) at h n q e = absurd (omega arith)
  kind_string (array t) at h n q e = absurd (omega arith)
  kind_string (list t) at h n q e = absurd (omega arith)
  kind_string (dictionary k v) at h n q e = absurd (omega arith)
  kind_string texture at h n q e = absurd (omega arith)
  kind_string texture_2d at h n q e = absurd (omega arith)
  kind_string sprite_font at h n q e = absurd (omega arith)
  kind_string page at h n q e = absurd (omega arith)
  kind_string (mesh index_buffer) at h n q e = absurd (omega arith)
  kind_string (mesh vertex_declaration) at h n q e = absurd (omega arith)
  kind_string (mesh vertex_buffer) at h n q e = absurd (omega arith)
  kind_string (mesh model) at h n q e = absurd (omega arith)

  -- a String's text, and that nothing stands below it
  string_text : Small f → (t : Target) (at : ℕ) (h : Opening) (n : ℕ) → t ≡ string → head_at f t at ≡ read h n
      → (h.1 ≡ stop) × ((x : Span) × HeadText f t at x × (at ≤ x.0) × (x.0 + x.1 ≡ n))
  unfolding Head Textual HeadText
  string_text small t at h n s q =
      let w = next_of (head_reads f t) small at q in
      let v : Head string h.0 h.1 w.form = subst (λ u. Head u h.0 h.1 w.form) s w.laid in
      let nb = v.0.0 in
      let l : length w.form ≡ length nb + length h.0 = ap length v.0.2 ∙ length-append nb h.0 in
      let e : at + length nb + length h.0 ≡ n = omega (arith, w.behind) in
      (v.1, ((at + length nb, length h.0), (s, (h, n, q, refl, e)), omega arith, e))

  module _ (step : Slot → ℕ → ℕ → Outcome) (text : Slot → ℕ → ℕ → Span → Type 0) (typed : (y : Slot) (at used : ℕ) → Ok (Typed (text y at used)) (step y at used)) where
    sequence_typed : (plan : Plan) (at used : ℕ) → Ok (Typed (SequenceText step text plan at used)) (sequence step plan at used)
    unfolding sequence SequenceText Each
    sequence_typed stop at used = is_read {a = (used, [], none)} tt
    sequence_typed (put y go) at used =
        ok_bind (with_read (typed y at used)) (λ a n w. ok_bind (sequence_typed (go (told_of a.2)) n a.0) (λ b e v.
        is_read {a = (b.0, a.1 ++ b.1, before a.2 b.2)}
        (each_append (λ r. r.kind ≡ 13 → TextOf (SequenceText step text (put y go) at used) r) a.1 b.1
        (typed-map a.1 (λ x t. inl t) w.0) (typed-map b.1 (λ x t. inr (a, n, w.1, t)) v))))

  module _ (small : Small f) (readers : List Target) (shared room : ℕ) where
    module _ (below : Plan → ℕ → ℕ → Outcome) (text : Plan → ℕ → ℕ → Span → Type 0)
        (stops : (at used : ℕ) → below stop at used ≡ done at used [] none)
        (typed : (plan : Plan) (at used : ℕ) → Ok (Typed (text plan at used)) (below plan at used)) where
      -- a String's own row
      own_typed : (t : Target) (first at used : ℕ) (h : Opening) (n : ℕ) (a : Taken) (e : ℕ) (r : Row) → r.kind ≡ kind_of t → r.first ≡ first → r.bytes ≡ e - first → first ≤ at → head_at f t at ≡ read h n
          → below h.1 n (suc used) ≡ read a e → r.kind ≡ 13 → TextOf (RawText f readers shared room text t at used) r
      unfolding RawText
      own_typed t first at used h n a e r k i j l q p z =
          let s : t ≡ string = kind_string t at h n q (sym k ∙ z) in
          let w = string_text small t at h n s q in
          let end : done n (suc used) [] none ≡ read a e = sym (stops n (suc used)) ∙ (rw w.0 at p) in
          let m : n ≡ e = cc in
          let x = w.1 in
          (x.0, inl x.1, omega (arith, x.2), omega (arith, x.2, x.3))

      raw_typed : (t : Target) (first at used parent id : ℕ) → first ≤ at → Ok (Typed (RawText f readers shared room text t at used)) (raw_at f readers shared room below t first at used parent id)
      unfolding raw_at RawText Each
      raw_typed t first at used parent id l =
          ok_bind (was_read (head_at f t at)) (λ h n q. ok_bind (with_read (typed h.1 n (suc used))) (λ a e w. ok_check (font_ok point t a.2) 22 at _ (λ b.
          is_read {a = (a.0, drafted (row (kind_of t) first (e - first) (count a.2) parent id (a.0 - used)) ∷ a.1, tree (kind_of t) id h.0 a.2 none)} (
            own_typed t first at used h n a e (row (kind_of t) first (e - first) (count a.2) parent id (a.0 - used)) refl refl refl l q w.1,
            typed-map a.1 (λ x z. inr (h, n, q, z)) w.0,
          ))))

      reader_typed : (u : Found) (t : Target) (id at next used parent : ℕ) → at ≤ next → Ok (Typed (ReaderText f readers shared room u text t next used)) (by_reader f readers shared room u below t id at next used parent)
      unfolding by_reader ReaderText
      reader_typed missing t id at next used parent l = not_read
      reader_typed (found u) t id at next used parent l = ok_check (serves t u) 14 at _ (λ b. ok_weaken (raw_typed u at next used parent id l) (λ a e w. typed-map a.1 (λ x z. (b, z)) w))

      object_typed : (t : Target) (id at next used parent : ℕ) → at ≤ next → Ok (Typed (ObjectText f readers shared room text t id next used)) (object_at f readers shared room below t id at next used parent)
      unfolding object_at ObjectText
      object_typed t zero at next used parent l = alone (λ x. ⊥) (drafted (row 0 at (next - at) 0 parent 0 1)) next (suc used) (tree 0 0 [] none none) (λ k. omega arith)
      object_typed t (suc i) at next used parent l = reader_typed (reader readers (suc i)) t (suc i) at next used parent l

      value_typed : (y : Slot) (at used parent : ℕ) → Ok (Typed (ValueText f readers shared room text y at used)) (value_at f readers shared room below y at used parent)
      unfolding value_at ValueText
      value_typed (raw t) at used parent = raw_typed t at at used parent 0 (omega arith)
      value_typed (object t) at used parent =
          ok_bind (was_read (seven_at f at)) (λ id n q. let g = seven_next f small at q in
          ok_weaken (object_typed t id at n used parent (omega (arith, g.0))) (λ a e w. typed-map a.1 (λ x z. (id, n, q, z)) w))
      value_typed (reference k) at used parent =
          ok_bind (was_read (seven_at f at)) (λ id n q. ok_check (leb id shared) 16 at _ (λ b. alone (λ x. ⊥) (wanting k (row 36 at (n - at) 0 parent id 1)) n (suc used) (tree 36 id [] none none) (λ k. omega arith)))
      value_typed (leaf l) at used parent =
          ok_bind (was_read (leaf_at f l at)) (λ own n q. alone (λ x. ⊥) (drafted (row (leaf_kind l) at (n - at) 0 parent 0 1)) n (suc used) (tree (leaf_kind l) 0 own none none) (leaf_other l))

    stop_is : (step : Slot → ℕ → ℕ → Outcome) (at used : ℕ) → sequence step stop at used ≡ done at used [] none
    unfolding sequence
    stop_is step at used = refl

    walk_typed : (d : ℕ) (y : Slot) (at used parent : ℕ) → Ok (Typed (WalkText f readers shared room d y at used)) (walk f readers shared room d y at used parent)
    unfolding walk WalkText
    walk_typed zero y at used parent = not_read
    walk_typed (suc d) y at used parent =
        let step : Slot → ℕ → ℕ → Outcome = λ y b v. walk f readers shared room d y b v (suc used) in
        let text : Slot → ℕ → ℕ → Span → Type 0 = λ y b v z. WalkText f readers shared room d y b v z in
        ok_check (ltb used room) 19 at _ (λ b.
        ok_weaken (value_typed (λ plan a u. sequence step plan a u) (λ plan a u z. SequenceText step text plan a u z) (stop_is step)
        (λ plan a u. sequence_typed step text (λ y b v. walk_typed d y b v (suc used)) plan a u) y at used parent) (λ a e w. typed-map a.1 (λ x z. (b, z)) w))

  file_typed : (name_of : ℕ → List ℕ → Named) → Small f → (room : ℕ) → Ok (λ l e. Each (λ r. r.kind ≡ 13 → TextOf (FileText name_of room f) r) (bare l.rows)) (file_at name_of f room)
  unfolding file_at objects_at finished FileText
  file_typed name_of small room =
      ok_bind (was_read (header_at f)) (λ h at q. ok_bind (was_read (lists_at name_of f at)) (λ l first p.
      let step : Slot → ℕ → ℕ → Outcome = λ y a u. walk f l.1 l.2 room 32 y a u 0 in
      let text : Slot → ℕ → ℕ → Span → Type 0 = λ y a u z. WalkText f l.1 l.2 room 32 y a u z in
      ok_bind (sequence_typed step text (λ y a u. walk_typed small l.1 l.2 room 32 y a u 0) (objects_plan l.2) first 0) (λ a e w.
      ok_check (eqb e (length f)) 20 e _ (λ b. judged-sound (drop 1 (root_kinds a.1)) a.1 _ (λ k.
      is_read {a = record { tree = record { platform = h.0; flags = h.1; names = l.0; objects = a.2 }; rows = a.1; readers = length l.1; shared = l.2 }}
      (typed-map a.1 (λ x z. (h, at, q, (l, first, p, z))) w))))))

-- the text of every String row of an accepted file is one that may be typed anew
pub every_string : (name_of : ℕ → List ℕ → Named) (f : List ℕ) (words : ℕ) → Small f → (rows : List Row) (readers shared : ℕ) → load_of name_of f words ≡ accepted rows readers shared
    → Each (λ r. r.kind ≡ 13 → TextOf (FileText name_of (room_of words) f) r) rows
unfolding load_of to_load
every_string name_of f words small rows readers shared q = go (file_at name_of f (room_of words)) (file_typed f name_of small (room_of words)) q where
  go : (o : Answer Loaded) → Ok (λ l e. Each (λ r. r.kind ≡ 13 → TextOf (FileText name_of (room_of words) f) r) (bare l.rows)) o → to_load o ≡ accepted rows readers shared
      → Each (λ r. r.kind ≡ 13 → TextOf (FileText name_of (room_of words) f) r) rows
  go (refused n p) w e = differ cc
  go (read l e) w z = let k : bare l.rows ≡ rows = cc in rw (← k) (w.got refl)

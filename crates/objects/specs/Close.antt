-- Laws of how a value ends: the raw value that it is, with its padding. Assumes nothing.
use Rattle.std.proofs.Math.Path.{◌≡◌, refl, sym, ap}
use Rattle.std.proofs.Common.{◌∙◌, eqb-true}
use Rattle.std.specs.Prelude.{Ok, Err, Bool, cond, List, [], ◌∷◌, ℕ, suc, ◌+◌, ◌*◌, ◌-◌, ◌≤◌, ◌<◌, ◌^◌, eqb, leb}
use Rattle.std.proofs.Math.Bool.{true, false}
use native.Mathlib.Omega.{arith}
use Rattle.std.proofs.Math.ListN.{length}
use Rattle.std.proofs.lemmas.Bool.{eqb-false}
use Rattle.layout.specs.Target.{Target, fixed, char, string, object as anything, texture, texture_2d, sprite_font, page, index_buffer, vertex_declaration, vertex_buffer, model, mesh, mesh_kind, enum, nullable, array, list, dictionary, kind_of}
use Rattle.layout.specs.Tree.{Trees, none, tree, count, size}
use Rattle.layout.specs.Slot as L
use Rattle.layout.specs.Slot.{Plan, each, font_slots}
use Rattle.layout.specs.Layout.{Lays}
use Rattle.layout.specs.Resource.{Within}
use Rattle.layout.specs.Rows.{Row, row, width}
use Rattle.layout.specs.Fixed.{sizes}
use Rattle.layout.specs.Named.{plain, fixed_kind, Lawful}
use Rattle.layout.specs.Shortest.{numbered}
use Rattle.reading.specs.Answer.{Answer, read, bind, check}
use Rattle.reading.specs.Reads.{Small}
use Rattle.reading.specs.Font.{font_ok}
use Rattle.reading.specs.Heads.{Opening, head_at}
use Rattle.reading.specs.Walk.{Taken, Outcome, point, sequence, raw_at, walk}
use Rattle.reading.proofs.Sound.{walks_sound}
use Rattle.reading.proofs.Bounds.{sequence_bounds}
use Rattle.reading.specs.Drafts.{Draft, drafted, bare}
use Rattle.targets.specs.Code.{code_kind}
use Rattle.targets.specs.Word.{fixed-has-size}
use Rattle.targets.specs.Laws.{of_kind, kind_of-code}
use Rattle.fonts.specs.FontWords.{font_words}
use Rattle.fonts.specs.Bridge.{font_judged, other_kind}
use Rattle.table.specs.declared.Grid.{Grid}
use Rattle.table.specs.Put.{put_row}
use Rattle.table.specs.Word.{in_word, word_more}
use Rattle.walked.specs.declared.Head.{Head}
use Rattle.answers.specs.Refusals.{refusal}
use Rattle.walked.specs.Written.{written, written_under, length-written}
use Rattle.walked.specs.Contract.{Walk, seen, reaching, padded, Walked, Free, put-leaf}
use Rattle.walked.specs.Leaf.{value_row, value_row_lem}
use Rattle.walked.specs.Loop.{Got, got, lost, refusing, reading}
use Rattle.heads.specs.Below.{font_head}
use Rattle.places.specs.Places.{count_places}
use Rattle.places.specs.Padding.{rows_padding, row_first, id_of, sized-plain}
use Rattle.places.specs.Padding.{padding as padding_of}
use Rattle.objects.specs.Beginnings.{Ided, under}
use Rattle.objects.specs.Endings.{keeps, close_answer, close_words, Closable}

-- as many children as slots, and a row for each
laid_count : (readers : List Target) (refers : ℕ → ℕ → Type 0) (slots : List L.Slot) (ts : Trees) (bs : List ℕ) → Lays readers refers (each slots) ts bs → (count ts ≡ length slots) × (count ts ≤ size ts)
unfolding Lays each count size
laid_count readers refers [] none bs w = (refl, omega arith)
laid_count readers refers [] (tree k i own cs rest) bs w = absurd w
laid_count readers refers (x ∷ slots) none bs w = absurd w
laid_count readers refers (x ∷ slots) (tree k i own cs rest) bs w =
    let r = laid_count readers refers slots rest w.1 w.4 in
    (ap suc r.0, omega (arith, r.1))

-- a kind other than an enum's is that of the type's code
code-of_kind : (t : Target) → Lawful t → (k : ℕ) → (k ≡ 15 → ⊥) → kind_of t ≡ k → code_kind t ≡ k
code-of_kind t l k n e = go (leb 60 (code_kind t)) (sym (kind_of-code t l) ∙ e) where
  go : (b : Bool) → cond b 15 (code_kind t) ≡ k → code_kind t ≡ k
  go true q = absurd (n (sym q))
  go false q = q

-- no type's raw values are null or shared references
pub unnumbered : (t : Target) → Lawful t → numbered (kind_of t) 0 ≡ false
unfolding numbered kind_of mesh_kind Lawful
unnumbered (fixed k) l = (sized-plain k (fixed-has-size k l)).0
unnumbered char l = refl
unnumbered string l = refl
unnumbered anything l = refl
unnumbered (enum name z) l = refl
unnumbered (nullable t) l = refl
unnumbered (array t) l = refl
unnumbered (list t) l = refl
unnumbered (dictionary k v) l = refl
unnumbered texture l = refl
unnumbered texture_2d l = refl
unnumbered sprite_font l = refl
unnumbered page l = refl
unnumbered (mesh index_buffer) l = refl
unnumbered (mesh vertex_declaration) l = refl
unnumbered (mesh vertex_buffer) l = refl
unnumbered (mesh model) l = refl

-- the padding of a value's row and of the rows below it: that of its id, of its count, and theirs
module _ (file : List ℕ) (t : Target) (lawful : Lawful t) (first at id padding : ℕ) (ided : Ided file first at id padding) where
  pub row-padding : (r : Row) (rows : List Row) → r.kind ≡ kind_of t → r.first ≡ first → r.detail ≡ id
      → rows_padding file (r ∷ rows) ≡ padding + (padding_of file (count_places file (kind_of t) at) + rows_padding file rows)
  row-padding r rows k f d =
      let i = id_of file (kind_of t) first id (unnumbered t lawful) in
      row_first file r rows ∙ rw (k, f, d, i.0, i.1, ← ided.behind, ← ided.pads)

module _ (g : Grid) (file : List ℕ) (small : Small file) (readers : List Target) (shared below : ℕ) where
  -- children that stand in slots which no child has a say in
  pub slots-counted : (slots : List L.Slot) (at used parent : ℕ) (a : Taken) (e : ℕ) → sequence (λ y b v. walk file readers shared g.room below y b v parent) (each slots) at used ≡ read a e
      → (count a.2 ≡ length slots) × (used + length slots ≤ a.0)
  slots-counted slots at used parent a e q =
      let v = (walks_sound file readers shared g.room small below (each slots) at used parent).got q in
      let c = laid_count readers (Within shared) slots a.2 v.bytes v.laid in
      (c.0, omega (arith, c.0, c.1, v.used_is))

  module _ (t : Target) (lawful : Lawful t) (h : Head) (at : ℕ) (w₀ : List ℕ) (long : width * g.room ≤ length w₀) (few : g.room < 2 ^ 32) (free : h.row.0 < g.room)
      (ided : Ided file h.first at h.detail h.padding) (uncounted : padding_of file (count_places file (kind_of t) at) ≡ 0) where
    abbrev pub raw_of : Outcome
    raw_of = raw_at file readers shared g.room (under file readers shared g.room below h.row.0) t h.first at h.row.0 h.parent h.detail

    module _ {o : Opening} {next : ℕ} (opened : head_at file t at ≡ read o next) (plan : Plan) (planned : o.1 ≡ plan) where
      abbrev seq : Outcome
      seq = sequence (λ y b v. walk file readers shared g.room below y b v (suc h.row.0)) plan next (suc h.row.0)

      -- the children's rows have the room
      rows_fit : (a : Taken) (e : ℕ) → seq ≡ read a e → suc h.row.0 + length a.1 ≤ g.room
      rows_fit a e q =
          let k = sequence_bounds file readers shared g.room small below plan next (suc h.row.0) (suc h.row.0) a e q in
          omega (arith, k.counted, k.fits (omega arith))

      -- the font rule over the words is that over the trees
      rule : (a : Taken) (e : ℕ) (w₁ : List ℕ) → seq ≡ read a e → w₁ ≡ written g w₀ (suc h.row.0) a.1 → (b : Bool) → eqb (kind_of t) 33 ≡ b → font_ok point t a.2 ≡ cond b (font_words g file w₁ h.row.0) true
      unfolding plain fixed_kind sizes
      rule a e w₁ q words false z = other_kind t a.2 (eqb-false (kind_of t) 33 z)
      rule a e w₁ q words true z =
          let s : t ≡ sprite_font = of_kind t sprite_font 33 lawful (code-of_kind t lawful 33 (λ q. omega arith) (eqb-true (kind_of t) 33 z)) refl in
          let op : head_at file sprite_font at ≡ read o next = rw s at opened in
          let y : ◌≡◌ {A = Answer Opening} (read ([], each font_slots) at) (read o next) = sym (font_head file at) ∙ op in
          let o₁ : ([], each font_slots) ≡ o = cc in
          let p : each font_slots ≡ plan = ap (λ (y : Opening). y.1) o₁ ∙ planned in
          let q' : sequence (λ y b v. walk file readers shared g.room below y b v (suc h.row.0)) (each font_slots) next (suc h.row.0) ≡ read a e = rw p q in
          rw s (font_judged g file small readers shared g.room below next h.row.0 a e q' w₀ w₁ words long few (rows_fit a e q))

      -- the padding of the value's row and of those below it
      summed : (r : Row) (rows : List Draft) (p : ℕ) → padded file rows ≡ p → r.kind ≡ kind_of t → r.first ≡ h.first → r.detail ≡ h.detail → in_word (h.padding + p) ≡ padded file (drafted r ∷ rows)
      summed r rows p e k f d =
          let s : rows_padding file (r ∷ bare rows) ≡ h.padding + rows_padding file (bare rows) = row-padding file t lawful h.first at h.detail h.padding ided r (bare rows) k f d ∙ omega (arith, uncounted) in
          rw (← e) (word_more h.padding (rows_padding file (bare rows)) ∙ ap in_word (sym s))

      kept : (w₁ : List ℕ) (n e u p : ℕ) → Closable h (reaching u p e) → (y : Got g file w₀ w₁ (suc h.row.0) seq e u p) → n ≡ count y.taken.2 → (b : Bool) → font_ok point t y.taken.2 ≡ b
          → Walked g file w₀ (cond b (put_row g w₁ h.row.0 (value_row h (kind_of t) n (u - h.row.0) e)) w₁) h.row.0 (seen raw_of) (cond b (reaching u (in_word (h.padding + p)) e) (Err (refusal 22 at)))
      unfolding raw_at bind check
      kept w₁ n e u p c y z false f = refusing (rw (opened, planned, y.is, f))
      kept w₁ n e u p c y z true f =
          let a = y.taken in
          let r : Row = row (kind_of t) h.first (e - h.first) n h.parent h.detail (u - h.row.0) in
          let x : Draft = drafted r in
          let l : length w₁ ≡ length w₀ = ap length y.words ∙ length-written g w₀ (suc h.row.0) a.1 in
          let there : Free g w₁ h.row.0 = record { long = omega arith; there = free; few = omega arith } in
          let words = ap (put_row g w₁ h.row.0) (value_row_lem h (kind_of t) n (u - h.row.0) e c.0 c.1) ∙ put-leaf g w₁ h.row.0 x there ∙ ap (λ w. written g w h.row.0 (x ∷ [])) y.words
          ∙ written_under g w₀ h.row.0 x a.1 (rows_fit a e y.is) in
          reading (a.0, x ∷ a.1, tree (kind_of t) h.detail o.0 a.2 none) (rw (opened, planned, y.is, f, z, y.rows_used)) (sym y.rows_used) (summed r a.1 p y.pads refl refl refl) words

      -- the children were walked and the value ended, with their number
      pub raw-closed : (w₁ : List ℕ) (n : ℕ) (walked : Walk) → Closable h walked → ((a : Taken) (e : ℕ) → seq ≡ read a e → n ≡ count a.2) → Walked g file w₀ w₁ (suc h.row.0) (seen seq) walked
          → Walked g file w₀ (close_words g file w₁ h (kind_of t) n walked) h.row.0 (seen raw_of) (close_answer g file w₁ h (kind_of t) at walked)
      unfolding raw_at bind keeps
      raw-closed w₁ n (Err e) c z d = refusing (rw (opened, planned, lost d refl))
      raw-closed w₁ n (Ok r) c z d =
          let y = got d refl in
          kept w₁ n r.next r.used r.padding c y (z y.taken r.next y.is) (keeps g file w₁ (kind_of t) h.row.0) (rule y.taken r.next w₁ y.is y.words (eqb (kind_of t) 33) refl)

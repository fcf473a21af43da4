-- No figure of a file is large: every row is as long as a part of the file, and numbers of the file fit 32 bits (02, Req 14). Assumes nothing.
use Rattle.std.specs.Prelude.{◌≡◌, refl, Bool, true, false, cond, List, [], ◌∷◌, ◌++◌, eqb, ltb}
use Rattle.std.proofs.Math.Path.{ap}
use Rattle.std.proofs.Common.{◌∙◌, inl, inr, arith, ltb-true}
use Prim.Native.Nat.{ℕ, suc, ◌+◌, ◌*◌, ◌-◌, ◌≤◌, ◌<◌, ◌^◌}
use Rattle.std.proofs.Math.ListN.{length, length-append}
use Rattle.layout.specs.EnumList.{EnumEntry}
use Rattle.layout.specs.Target.{Target}
use Rattle.layout.specs.Tree.{Trees, none, tree, count, size, told}
use Rattle.layout.specs.Slot.{Slot, raw, object, reference, leaf, Plan, stop, put}
use Rattle.layout.specs.Layout.{Raw, Value, Lays}
use Rattle.layout.specs.Resource.{Resource}
use Rattle.layout.specs.File.{FileTree, shared_of, header, objects_plan, FileLays, file_rows}
use Rattle.layout.specs.Rows.{Row, row, raw_rows, value_rows, noted_rows, rows_of}
use Rattle.reading.specs.Answer.{Answer, refused, read, bind, check}
use Rattle.reading.specs.Reads.{Small}
use Rattle.reading.specs.Seven.{seven_at}
use Rattle.reading.specs.File.{Named, Judges, Loaded, file_at}
use Rattle.reading.specs.Drafts.{bare}
use Rattle.reading.specs.Accepts.{rows-count, file_bare}
use Rattle.reading.proofs.Accepts.{file_sound}
use Rattle.numbers.specs.Padded.{number_of}
use Rattle.places.specs.Places.{raw_place}
use Rattle.pack_figures.specs.Figures.{Figure, files, loaded, text_bytes, image_bytes, refusals, rows, one, of_refusal, of_load}
use Rattle.pack_figures.specs.Digest.{row_bytes, mark_of, marks, of_accepted, of_mark, of_marks}
use Rattle.pack_figures.specs.Counted.{by_rows, figures_are}

-- ---- The rows of a file are as long as parts of it

-- each row has at most so many bytes
unfoldable pub Short : (most : ℕ) → List Row → Type 0
Short most [] = Unit {0}
Short most (r ∷ rs) = (r.bytes ≤ most) × Short most rs

short-append : (most : ℕ) (a b : List Row) → Short most a → Short most b → Short most (a ++ b)
unfolding Short
short-append most [] b s t = t
short-append most (r ∷ a) b s t = (s.0, short-append most a b s.1 t)

module _ (most : ℕ) (readers : List Target) (refers : ℕ → ℕ → Type 0) where
  module _ (cs : Trees) (h : (plan : Plan) (b : List ℕ) (v : Lays readers refers plan cs b) (at n q : ℕ) → length b ≤ most → Short most (rows_of readers refers plan cs b v at n q)) where
    abbrev Under : Plan → List ℕ → Type 0
    Under plan b = Lays readers refers plan cs b

    abbrev below : (plan : Plan) (b : List ℕ) → Under plan b → (at n q : ℕ) → List Row
    below plan b v at n q = rows_of readers refers plan cs b v at n q

    raw_short : (t : Target) (kind : ℕ) (own bs : List ℕ) (w : Raw Under t kind own cs bs) (first z at n p id : ℕ) → z ≤ most → length bs ≤ most
        → Short most (raw_rows (λ r. r) (λ t r. r) Under below t kind own cs bs w first z at n p id)
    unfolding raw_rows Short
    raw_short t kind own bs w first z at n p id g l =
        (g, h w.plan w.children w.laid (at + length w.head) (suc n) (suc n) (omega (arith, ap length w.parts, length-append w.head w.children)))

    value_short : (x : Slot) (kind id : ℕ) (own bs : List ℕ) (w : Value readers refers Under x kind id own cs bs) (at n q : ℕ) → length bs ≤ most
        → Short most (value_rows (λ r. r) (λ t r. r) readers refers Under below x kind id own cs bs w at n q)
    unfolding Value value_rows Short
    value_short (raw t) kind id own bs w at n q l = raw_short t kind own bs w.1 at (length bs) at n q 0 l l
    value_short (object t) kind id own bs (inl w) at n q l = (l, tt)
    value_short (object t) kind id own bs (inr w) at n q l =
        raw_short w.target kind own w.value w.laid at (length bs) (at + length w.number) n q id l (omega (arith, ap length w.parts, length-append w.number w.value))
    value_short (reference t) kind id own bs w at n q l = (l, tt)
    value_short (leaf x) kind id own bs w at n q l = (l, tt)

  rows_short : (ts : Trees) (plan : Plan) (bs : List ℕ) (w : Lays readers refers plan ts bs) (at n q : ℕ) → length bs ≤ most → Short most (rows_of readers refers plan ts bs w at n q)
  unfolding Lays noted_rows Short
  rows_short none stop bs w at n q l = tt
  rows_short none (put x go) bs w at n q l = absurd w
  rows_short (tree k i own cs rest) stop bs w at n q l = absurd w
  rows_short (tree k i own cs rest) (put x go) bs w at n q l =
      short-append most
      (value_rows (λ r. r) (λ t r. r) readers refers (λ plan b. Lays readers refers plan cs b) (λ plan b v a n p. rows_of readers refers plan cs b v a n p) x k i own cs w.0 w.3 at n q)
      (rows_of readers refers (go (told k own cs)) rest w.1 w.4 (at + length w.0) (n + suc (size cs)) q)
      (value_short cs (λ plan b v at n q l. rows_short cs plan b v at n q l) x k i own w.0 w.3 at n q (omega (arith, ap length w.2, length-append w.0 w.1)))
      (rows_short rest (go (told k own cs)) w.1 w.4 (at + length w.0) (n + suc (size cs)) q (omega (arith, ap length w.2, length-append w.0 w.1)))

file_short : (es : List EnumEntry) (ft : FileTree) (file : List ℕ) (w : FileLays es ft file) → Short 16777216 (file_rows es ft file w)
unfolding file_rows
file_short es ft file w =
    rows_short 16777216 w.readers (Resource (shared_of ft.objects)) ft.objects (objects_plan (count (shared_of ft.objects))) w.values w.laid (10 + length w.before) 0 0
    (omega (arith, w.short, ap length w.parts, length-append (header ft.platform ft.flags (length file)) (w.before ++ w.values), length-append w.before w.values))

-- ---- What a row adds to a figure

number-below : (x : Answer ℕ) (at : ℕ) → number_of (bind x (λ n e. check (ltb n (2 ^ 32)) 8 at (read n e))) < 2 ^ 32
unfolding number_of bind check
number-below (refused m p) at = omega arith
number-below (read n e) at = go (ltb n (2 ^ 32)) (λ h. ltb-true n (2 ^ 32) h) where
  go : (b : Bool) → (b ≡ true → n < 2 ^ 32) → number_of (check b 8 at (read n e)) < 2 ^ 32
  go true h = h refl
  go false h = omega arith

seven-below : (file : List ℕ) (at : ℕ) → number_of (seven_at file at) < 2 ^ 32
unfolding seven_at
seven-below file at = number-below _ at

row_below : (file : List ℕ) (r : Row) → r.bytes ≤ 16777216 → row_bytes file r < 2 ^ 32
unfolding row_bytes
row_below file r h = go (eqb r.kind 13) (eqb r.kind 35) where
  go : (s t : Bool) → cond s (number_of (seven_at file (raw_place file r.kind r.first r.detail))) (cond t (r.bytes - 4) 0) < 2 ^ 32
  go true t = seven-below file (raw_place file r.kind r.first r.detail)
  go false true = omega arith
  go false false = omega arith

some_or_none : (b : Bool) (n : ℕ) → n < 2 ^ 32 → cond b n 0 < 2 ^ 32
some_or_none true n h = h
some_or_none false n h = omega arith

mark-below : (file : List ℕ) (r : Row) (f : Figure) → r.bytes ≤ 16777216 → of_mark (mark_of file r) f < 2 ^ 32
unfolding of_mark one
mark-below file r files h = omega arith
mark-below file r loaded h = omega arith
mark-below file r text_bytes h = some_or_none (eqb r.kind 13) (row_bytes file r) (row_below file r h)
mark-below file r image_bytes h = some_or_none (eqb r.kind 35) (row_bytes file r) (row_below file r h)
mark-below file r (refusals n) h = omega arith
mark-below file r (rows k) h = some_or_none (eqb r.kind k) 1 (omega arith)

marks-below : (file : List ℕ) (rs : List Row) (f : Figure) → Short 16777216 rs → of_marks (marks file rs) f ≤ length rs * 2 ^ 32
unfolding Short of_marks
marks-below file [] f s = omega arith
marks-below file (r ∷ rs) f s = omega (arith, mark-below file r f s.0, marks-below file rs f s.1)

accepted-below : (f : Figure) → of_accepted f ≤ 1
unfolding of_accepted
accepted-below files = omega arith
accepted-below loaded = omega arith
accepted-below text_bytes = omega arith
accepted-below image_bytes = omega arith
accepted-below (refusals n) = omega arith
accepted-below (rows k) = omega arith

-- ---- What a file adds

pub refusal-below : (number : ℕ) (f : Figure) → of_refusal number f ≤ 2 ^ 49
unfolding of_refusal one
refusal-below number files = omega arith
refusal-below number loaded = omega arith
refusal-below number text_bytes = omega arith
refusal-below number image_bytes = omega arith
refusal-below number (refusals n) = let h = some_or_none (eqb number n) 1 (omega arith) in omega arith
refusal-below number (rows k) = omega arith

module _ (es : List EnumEntry) (name_of : ℕ → List ℕ → Named) (judges : Judges es name_of) (file : List ℕ) (small : Small file) where
  pub load_below : (x : Answer Loaded) → file_at name_of file 65536 ≡ x → (f : Figure) → of_load x f ≤ 2 ^ 49
  unfolding of_load by_rows
  load_below (refused n p) q f = refusal-below n f
  load_below (read a e) q f =
      let v = (file_sound es name_of judges file 65536 small).got q in
      let r : bare a.rows ≡ file_rows es a.tree file v.lays = ap bare v.rows_are ∙ file_bare es a.tree file v.lays in
      let s : Short 16777216 (bare a.rows) = rw r (file_short es a.tree file v.lays) in
      let n : length (bare a.rows) ≤ 65536 = omega (arith, ap length r, rows-count es a.tree file v.lays, v.room_left) in
      omega (arith, figures_are es name_of judges file 65536 small a e q f, accepted-below f, marks-below file (bare a.rows) f s)

-- Laws of loading: each step of the code against what loading answers. Assumes nothing.
use Rattle.std.specs.Prelude.{◌≡◌, Bool, ℕ, ◌+◌, ◌*◌, ◌-◌, ◌≤◌, drop, set, Option, Result, Ok, Err, Some, None}
use Rattle.std.proofs.Math.Path.{refl, sym, ap}
use Rattle.std.proofs.Common.{subst, ◌∙◌, add-one, take-append-drop, eq-eqb, ne_eqb}
use Rattle.std.proofs.Math.Bool.{true, false}
use mathlib.Core.List.{List, [], ◌∷◌, ◌++◌, map}
use native.Mathlib.Omega.{arith}
use Rattle.std.proofs.Math.ListN.{length, take, replicate, length-append, length-drop}
use Rattle.std.specs.Result.{is_err}
use Rattle.laws.specs.Small.{differ}
use Rattle.layout.specs.Target.{Target, object as anything}
use Rattle.layout.specs.Slot as L
use Rattle.layout.specs.Slot.{each, object}
use Rattle.layout.specs.Rows.{Row, words, flat, width}
use Rattle.layout.specs.File.{objects_plan, header}
use Rattle.layout.specs.Text.{ascii}
use Rattle.layout.specs.Number.{little}
use Rattle.layout.specs.EnumList.{EnumEntry}
use Rattle.layout.specs.Table.{shape_of, cell, room_of, words_with}
use Rattle.reading.specs.Answer.{Answer, refused, read, bind, check}
use Rattle.reading.specs.Reads.{Small, reads_bounds}
use Rattle.reading.specs.References.{length-flat}
use Rattle.reading.specs.Walk.{Taken, sequence, walk}
use Rattle.reading.specs.Drafts.{bare, length-bare}
use Rattle.reading.specs.File.{Loaded as FileLoaded, root_kinds, header_at, lists_at, objects_at, finished, file_at, to_load, table_in}
use Rattle.reading.specs.Front.{header-sound, lists_reads}
use Rattle.table.specs.declared.Grid.{Grid}
use Rattle.table.specs.Stores.{written_rows}
use Rattle.table.specs.Grids.{cell_of, grid_of}
use Rattle.table.specs.Cleared.{cleared_behind, behind_columns, behind_rows}
use Rattle.table.specs.Stored.{settled_columns}
use Rattle.table.specs.Word.{in_word, word_more}
use Rattle.walked.specs.declared.Reached.{Reached}
use Rattle.walked.specs.Written.{written, length-written}
use Rattle.walked.specs.Loop.{Counted, got}
use Rattle.walked.specs.Contract.{padded}
use Rattle.fill.specs.Fill.{cleared}
use Rattle.answers.specs.declared.Read.{Read as Number-read}
use Rattle.answers.specs.declared.Refusal.{Refusal}
use Rattle.answers.specs.Refusals.{refusal}
use Rattle.header.specs.Header.{to_header, header_of}
use Rattle.heads.specs.declared.nest.Nest.TheVariants.{Each}
use Rattle.heads.specs.declared.slot.Slot.TheVariants.{Object}
use Rattle.targets.specs.Code.{prelude_size}
use Rattle.heads.specs.Plans.{Prelude, prelude, NestIs}
use Rattle.heads.specs.Nests.{begins, object_at}
use Rattle.resources.specs.Settled.{settled_of, settled as rows_settled, answered, judged_is, Drafted}
use Rattle.resources.specs.Flat.{rows-flat}
use Rattle.resources.specs.Objects.{objects-drafted}
use Rattle.steps.specs.declared.Children.{Children}
use Rattle.steps.specs.Turns.{Counts, children, whole as whole_nest, counts_walked, counts_refused}
use Rattle.load.specs.Loads.{Loading, loaded, Total, file_total, Loads, behind_header, answer_of}
use Rattle.readers.specs.Judged.{judged_name, judges}
use Rattle.readers.specs.Left.{enough}
use Rattle.load.specs.Under.{file_under, load_under}
use Rattle.readers.specs.Contract.{lists_total}
use Rattle.places.specs.Padding.{rows_padding, file_padding_lem}

module _ (file : List ℕ) (platform flags : ℕ) (names : List (List ℕ)) (readers shared : ℕ) (a : Taken) (next : ℕ) where
  -- 01: "20 after the last object"
  pub not_the_end : (next ≡ length file → ⊥) → finished file platform flags names readers shared a next ≡ refused 20 next
  unfolding finished check
  not_the_end h = rw (ne_eqb next (length file) h)

  module _ (end : next ≡ length file) where
    settled : (s : Option ℕ) → settled_of (drop 1 (root_kinds a.1)) a.1 ≡ s
        → finished file platform flags names readers shared a next
        ≡ answered s (read (record { tree = record { platform = platform; flags = flags; names = names; objects = a.2 }; rows = a.1; readers = readers; shared = shared }) next)
    unfolding finished check
    settled s e = rw (eq-eqb next (length file) end, judged_is, e)

    -- 01: "17 last"
    pub wrong-resource : {first : ℕ} → settled_of (drop 1 (root_kinds a.1)) a.1 ≡ Some first → finished file platform flags names readers shared a next ≡ refused 17 first
    wrong-resource {first} e = settled (Some first) e

    cleared_rows : (rows : List Row) (rest : List ℕ) → cleared (flat rows ++ rest) (width * length rows) ≡ flat rows ++ replicate (length rest) 0
    unfolding cleared
    cleared_rows rows rest =
        let l : length (flat rows) ≡ width * length rows = length-flat rows in
        let n : length (flat rows ++ rest) - width * length rows ≡ length rest = omega (arith, length-append (flat rows) rest) in
        rw (n, ← l) (ap (λ (x : List ℕ). x ++ replicate (length rest) 0) (take_left (flat rows) rest))
      where
        take_left : (x y : List ℕ) → take (length x) (x ++ y) ≡ x
        take_left [] y = refl
        take_left (b ∷ x) y = ap (λ (l : List ℕ). b ∷ l) (take_left x y)

    -- by rows
    rows_left : (g : Grid) (w : List ℕ) (rows : List Row) → g.columns ≡ false → length rows ≤ g.room → width * g.room ≤ length w
        → cleared_behind g (written_rows (shape_of g.columns) g.room w 0 (map words rows)) (length rows) ≡ flat rows ++ replicate (length w - width * length rows) 0
    unfolding cell
    rows_left g w rows by fits long =
        let x : width * length rows ≤ length w = omega arith in
        let k : length (drop (width * length rows) w) ≡ length w - width * length rows = length-drop (width * length rows) w in
        let y : cell_of g (length rows) 0 ≡ width * length rows = rw by (omega arith) in
        behind_rows g _ (length rows) by ∙ rw (y, by, rows-flat g.room w rows x, ← k) (cleared_rows rows (drop (width * length rows) w))

    -- in either shape
    rows_left_in : (g : Grid) (w : List ℕ) (rows : List Row) → length rows ≤ g.room → width * g.room ≤ length w → (b : Bool) → g.columns ≡ b
        → cleared_behind g (written_rows (shape_of g.columns) g.room w 0 (map words rows)) (length rows) ≡ words_with (shape_of b) g.room rows (length w)
    rows_left_in g w rows fits long false e = rows_left g w rows e fits long
    rows_left_in g w rows fits long true e = behind_columns g _ (length rows) e ∙ settled_columns g w rows e fits long

    -- all is well: the rows, and zeros elsewhere
    pub all_well : (total : Total) {g : Grid} {used padding : ℕ} {entry mid exit w : List ℕ} → Drafted g entry used a.1 w → padding ≡ total readers (bare a.1) → None ≡ settled_of (drop 1 (root_kinds a.1)) a.1 → mid ≡ rows_settled g w a.1
        → exit ≡ cleared_behind g mid used → Loads g total (finished file platform flags names readers shared a next) entry exit (Ok (loaded used readers shared padding))
    unfolding rows_settled
    all_well total {g} {used} {padding} {entry} {mid} {exit} {w} d q s m c =
        let n : used ≡ length a.1 = d.count in
        let b : length (bare a.1) ≡ length a.1 = length-bare a.1 in
        let e : length entry ≡ length w = ap length d.stand ∙ length-written g w 0 a.1 in
        rw (settled None (sym s), e) (rw (n, q) refl, c ∙ rw (m, n, ← b) (rows_left_in g w (bare a.1) (omega (arith, d.fits)) d.long g.columns refl))

-- only the words' length counts
same_size : (g : Grid) (total : Total) (w w' exit : List ℕ) (r : Loading) → length w' ≡ length w → (x : Answer FileLoaded) → Loads g total x w' exit r → Loads g total x w exit r
same_size g total w w' exit r l (refused n p) c = c
same_size g total w w' exit r l (read a e) c = rw (← l) c

-- a refusal
pub loads-refused : (g : Grid) (total : Total) (x : Answer FileLoaded) (entry exit : List ℕ) {n p : ℕ} → x ≡ refused n p → Loads g total x entry exit (Err (refusal n p))
loads-refused g total x entry exit e = rw e refl

module _ (g : Grid) (file : List ℕ) (small : Small file) (codes : List ℕ) (shared at : ℕ) (few : shared ≤ 256) where
  -- the slots of the primary and the shared objects
  abbrev pub roots : List L.Slot
  roots = replicate (shared + 1) (object anything)

  pub roots_are : Prelude codes → NestIs file codes (Each (Object 10) (shared + 1)) (each roots)
  roots_are p = begins file codes (Each (Object 10) (shared + 1)) roots (record { slot = object anything; are = refl; is = object_at file codes p })

  objects_are : (readers : List Target) → sequence (λ y b v. walk file readers shared g.room 32 y b v 0) (each roots) at 0 ≡ objects_at file g.room readers shared at
  unfolding objects_at objects_plan
  objects_are readers = ap (λ n. sequence (λ y b v. walk file readers shared g.room 32 y b v 0) (each (replicate n (object anything))) at 0) (add-one shared)

  module _ (platform flags : ℕ) (names : List (List ℕ)) (readers : List Target) where
    abbrev whole : Answer FileLoaded
    whole = bind (objects_at file g.room readers shared at) (λ a e. finished file platform flags names (length readers) shared a e)

    abbrev roots_walked : Answer Counted
    roots_walked = whole_nest g file codes readers shared 32 (each roots) [] at 0 0

    pub objects-lost : {w w' : List ℕ} {n p : ℕ} {r : Result Children Refusal} → Counts g file w w' 0 roots_walked r → r ≡ Err (refusal n p) → whole ≡ refused n p
    unfolding bind
    objects-lost c e = rw (sym (objects_are readers) ∙ counts_refused (sequence (λ y b v. walk file readers shared g.room 32 y b v 0) (each roots) at 0) (record { answers = sym e ∙ c.answers; writes = c.writes }))

    -- the objects were read, and their rows stand in the words
    pub record Rooted (w w' : List ℕ) (next used sum : ℕ) : Type 0 where
      pub taken : Taken
      pub pads : padded file taken.1 ≡ sum
      pub is : objects_at file g.room readers shared at ≡ read taken next
      pub drafted : Drafted g w' used taken.1 w

    pub objects-got : {w w' : List ℕ} {n : ℕ} {reached : Reached} {r : Result Children Refusal} → width * g.room ≤ length w → Counts g file w w' 0 roots_walked r → r ≡ Ok (children n reached) → Rooted w w' reached.next reached.used reached.padding
    objects-got {w} {w'} {n} {reached} long c e =
        let y = got (counts_walked (sequence (λ y b v. walk file readers shared g.room 32 y b v 0) (each roots) at 0) (record { answers = sym e ∙ c.answers; writes = c.writes })).0 refl in
        let q = sym (objects_are readers) ∙ y.is in
        let d = objects-drafted g file readers shared small few w at y.taken reached.next q long in
        record { taken = y.taken; pads = y.pads; is = q; drafted = subst (λ x. Drafted g x reached.used y.taken.1 w) (sym y.words) (subst (λ m. Drafted g (written g w 0 y.taken.1) m y.taken.1 w) y.rows_used d) }

    pub objects-loaded : (total : Total) (w w' exit : List ℕ) {next used sum : ℕ} (r : Loading) (o : Rooted w w' next used sum) → length w' ≡ length w → Loads g total (finished file platform flags names (length readers) shared o.taken next) w' exit r → Loads g total whole w exit r
    unfolding bind
    objects-loaded total w w' exit {next} {used} {sum} r o l c = rw o.is (same_size g total w w' exit r l (finished file platform flags names (length readers) shared o.taken next) c)

    -- the padding of the objects' rows is added to that of the numbers before them
    pub objects-padded : (total : Total) (padding : ℕ) {w w' : List ℕ} {next used sum : ℕ} (o : Rooted w w' next used sum)
        → ((rows : List Row) → in_word (padding + rows_padding file rows) ≡ total (length readers) rows) → in_word (padding + sum) ≡ total (length readers) (bare o.taken.1)
    objects-padded total padding o t = rw (← o.pads) (word_more padding (rows_padding file (bare o.taken.1))) ∙ t (bare o.taken.1)

-- the codes keep the types that fonts, pages and meshes declare
pub kept-prelude : (codes : List ℕ) → take prelude_size codes ≡ prelude → Prelude codes
kept-prelude codes e = record { rest = drop prelude_size codes; begins = sym (take-append-drop prelude_size codes) ∙ ap (λ (x : List ℕ). x ++ drop prelude_size codes) e }

-- where the lists end
pub lists_inside : (es : List EnumEntry) (file : List ℕ) → Small file → (at : ℕ) → at ≤ length file → {l : List (List ℕ) × List Target × ℕ} {e : ℕ} → lists_at (judged_name es) file at ≡ read l e → e ≤ length file
lists_inside es file s at h q = (reads_bounds (lists_reads es (judged_name es) (judges es) file) s at h q).1

header-length : (platform flags n : ℕ) → length (header platform flags n) ≡ 10
unfolding header ascii little
header-length platform flags n = refl

-- a number that was read
abbrev pub number_read : (value next : ℕ) → Number-read
number_read value next = record { value = value; next = next }

-- the header was read
pub record HeaderRead (file : List ℕ) (at : ℕ) : Type 0 where
  pub h : ℕ × ℕ
  pub is : header_at file ≡ read h at
  pub short : length file ≤ 16777216
  pub inside : at ≤ length file
  pub ten : at ≡ 10

pub header_read : (file : List ℕ) → Small file → {v at : ℕ} → Ok (number_read v at) ≡ header_of file → HeaderRead file at
header_read file s {v} {at} e = go (header_at file) refl e where
  go : (x : Answer (ℕ × ℕ)) → header_at file ≡ x → Ok (number_read v at) ≡ to_header x → HeaderRead file at
  go (refused n p) q e = differ cc
  go (read h f) q e =
      let y : number_read v at ≡ number_read 0 f = cc in
      let z : f ≡ at = sym (ap (λ (x : Number-read). x.next) y) in
      let b = (header-sound file s).got q in
      record { h = h; is = q ∙ ap (read h) z; short = b.1.short; ten = sym z ∙ b.0; inside = omega (arith, z, b.0, ap length b.1.parts ∙ length-append (header h.0 h.1 (length file)) (drop 10 file), header-length h.0 h.1 (length file)) }

-- the file, by its header
pub header_refused : (es : List EnumEntry) (file : List ℕ) (room : ℕ) {n p : ℕ} → Err (refusal n p) ≡ header_of file → file_at (judged_name es) file room ≡ refused n p
unfolding file_at bind
header_refused es file room {n} {p} e = go (header_at file) refl e where
  go : (x : Answer (ℕ × ℕ)) → header_at file ≡ x → Err (refusal n p) ≡ to_header x → file_at (judged_name es) file room ≡ refused n p
  go (refused m q) h e =
      let z : refusal n p ≡ refusal m q = cc in
      let e₁ : n ≡ m = ap (λ (y : Refusal). y.number) z in
      let e₂ : p ≡ q = ap (λ (y : Refusal). y.place) z in
      rw (h, e₁, e₂)
  go (read h f) q e = differ cc

pub file_behind : (es : List EnumEntry) (file : List ℕ) (room : ℕ) {at : ℕ} (h : HeaderRead file at) → file_at (judged_name es) file room ≡ behind_header es file room h.h.0 h.h.1 at
unfolding file_at behind_header bind
file_behind es file room h = rw h.is

-- the lists, by what reading them answers
pub lists_refused : (es : List EnumEntry) (file : List ℕ) (room platform flags at : ℕ) {n p : ℕ} → lists_at (judged_name es) file at ≡ refused n p → behind_header es file room platform flags at ≡ refused n p
unfolding behind_header bind
lists_refused es file room platform flags at e = rw e

pub behind_lists_lem : (es : List EnumEntry) (file : List ℕ) (room platform flags at : ℕ) {names : List (List ℕ)} {readers : List Target} {shared first : ℕ} → lists_at (judged_name es) file at ≡ read (names, readers, shared) first
    → behind_header es file room platform flags at ≡ bind (objects_at file room readers shared first) (λ a e. finished file platform flags names (length readers) shared a e)
unfolding behind_header bind
behind_lists_lem es file room platform flags at e = rw e

-- codes that suffice are not too few
pub not_lacking : (file : List ℕ) (at m n : ℕ) → m ≡ n → enough file at n ≡ true → enough file at m ≡ false → ⊥
not_lacking file at m n e t f = let q : enough file at m ≡ true = rw e t in differ cc

-- the stores that make the start of the codes
pub prelude-stored : (l : List ℕ) → prelude_size ≤ length l
    → take prelude_size (set (set (set (set (set (set (set (set (set (set (set (set l 0 32) 1 82) 2 30) 3 82) 4 12) 5 82) 6 24) 7 13) 8 80) 9 12) 10 14) 11 38) ≡ prelude
unfolding prelude
prelude-stored [] h = absurd (omega arith)
prelude-stored (a0 ∷ []) h = absurd (omega arith)
prelude-stored (a0 ∷ a1 ∷ []) h = absurd (omega arith)
prelude-stored (a0 ∷ a1 ∷ a2 ∷ []) h = absurd (omega arith)
prelude-stored (a0 ∷ a1 ∷ a2 ∷ a3 ∷ []) h = absurd (omega arith)
prelude-stored (a0 ∷ a1 ∷ a2 ∷ a3 ∷ a4 ∷ []) h = absurd (omega arith)
prelude-stored (a0 ∷ a1 ∷ a2 ∷ a3 ∷ a4 ∷ a5 ∷ []) h = absurd (omega arith)
prelude-stored (a0 ∷ a1 ∷ a2 ∷ a3 ∷ a4 ∷ a5 ∷ a6 ∷ []) h = absurd (omega arith)
prelude-stored (a0 ∷ a1 ∷ a2 ∷ a3 ∷ a4 ∷ a5 ∷ a6 ∷ a7 ∷ []) h = absurd (omega arith)
prelude-stored (a0 ∷ a1 ∷ a2 ∷ a3 ∷ a4 ∷ a5 ∷ a6 ∷ a7 ∷ a8 ∷ []) h = absurd (omega arith)
prelude-stored (a0 ∷ a1 ∷ a2 ∷ a3 ∷ a4 ∷ a5 ∷ a6 ∷ a7 ∷ a8 ∷ a9 ∷ []) h = absurd (omega arith)
prelude-stored (a0 ∷ a1 ∷ a2 ∷ a3 ∷ a4 ∷ a5 ∷ a6 ∷ a7 ∷ a8 ∷ a9 ∷ a10 ∷ []) h = absurd (omega arith)
prelude-stored (a0 ∷ a1 ∷ a2 ∷ a3 ∷ a4 ∷ a5 ∷ a6 ∷ a7 ∷ a8 ∷ a9 ∷ a10 ∷ a11 ∷ l) h = refl

-- all words cleared
none_kept : (mid : List ℕ) (n : ℕ) → length mid ≡ n → cleared mid 0 ≡ replicate n 0
unfolding cleared
none_kept mid n e = let z : length mid - 0 ≡ n = omega (arith, e) in rw z

-- the padding of the lists and of the rows is the file's
pub lists_padded : (file : List ℕ) (count padding : ℕ) (readers : List Target) → count ≡ length readers → padding ≡ lists_total file 10 count
    → (rows : List Row) → in_word (padding + rows_padding file rows) ≡ file_total file (length readers) rows
unfolding lists_total
lists_padded file count padding readers c p rows = ap in_word (rw (p, c) (sym (file_padding_lem file (length readers) rows)))

-- the whole: what is answered, and what the words hold at the end
module _ (enums file entry : List ℕ) (columns : Bool) where
  abbrev pub loads : (exit : List ℕ) → Loading → Type 0
  loads exit r = Loads (grid_of (length entry) columns) (file_total file) (file_under enums file (room_of (length entry))) entry exit r

  pub load_refused : (mid : List ℕ) {exit : List ℕ} (r : Loading) → loads mid r → length mid ≡ length entry → is_err r ≡ true → exit ≡ cleared mid 0
      → (r ≡ answer_of file (load_under enums file (length entry))) × (exit ≡ table_in (shape_of columns) (load_under enums file (length entry)) (length entry))
  unfolding load_under to_load table_in cleared
  load_refused mid {exit} (Ok r) l m t e = let q : false ≡ true = t in differ cc
  load_refused mid {exit} (Err y) l m t e = go columns (file_under enums file (room_of (length entry))) l where
    go : (b : Bool) (x : Answer FileLoaded) → Loads (grid_of (length entry) b) (file_total file) x entry mid (Err y) → (Err y ≡ answer_of file (to_load x)) × (exit ≡ table_in (shape_of b) (to_load x) (length entry))
    go false (refused a b) l = (l, e ∙ none_kept mid (length entry) m)
    go true (refused a b) l = (l, e ∙ none_kept mid (length entry) m)
    go b (read a f) l = absurd (let q : ◌≡◌ {A = Loading} (Err y) (Ok (loaded (length a.rows) a.readers a.shared (file_total file a.readers (bare a.rows)))) = l.0 in differ cc)

-- What a value comes to by what needs no reader list, and how a value ends. Assumes nothing.
use Rattle.std.specs.Prelude.{◌≡◌, refl, Bool, true, false, cond, List, [], leb, length, Result, Ok, Err}
use Rattle.std.proofs.Common.{sym, ap, subst, ◌∙◌, add-one, ne_eqb}
use Prim.Native.Nat.{ℕ, suc, ◌+◌, ◌-◌, ◌≤◌, ◌<◌, ◌^◌}
use native.Mathlib.Omega.{arith}
use Rattle.answers.specs.Refusals.{refusal}
use Rattle.answers.specs.declared.Refusal.{Refusal}
use Rattle.laws.specs.Small.{differ}
use Rattle.layout.specs.Named.{Lawful}
use Rattle.layout.specs.Target.{Target, kind_of}
use Rattle.layout.specs.Slot as L
use Rattle.layout.specs.Slot.{stop, each}
use Rattle.layout.specs.Rows.{row}
use Rattle.layout.specs.Tree.{none, count}
use Rattle.layout.specs.Tree as Tree
use Rattle.layout.specs.Shortest.{numbered}
use Rattle.reading.specs.Reads.{Small, reads_bounds}
use Rattle.reading.specs.Heads.{head_at}
use Rattle.reading.proofs.Heads.{head_reads}
use Rattle.reading.specs.Answer.{refused, read, bind, check}
use Rattle.reading.specs.Drafts.{nothing}
use Rattle.reading.specs.Walk.{Taken, Outcome, sequence, raw_at, walk}
use Rattle.reading.proofs.Bounds.{sequence_bounds}
use Rattle.table.specs.declared.Grid.{Grid}
use Rattle.table.specs.Put.{put_row}
use Rattle.table.specs.Word.{in_word, in_word_lem}
use Rattle.walked.specs.declared.Head.{Head}
use Rattle.walked.specs.Contract.{Walk, seen, atop, Free, Walked}
use Rattle.walked.specs.Leaf.{value_row, leaf_of, leaf_answer, leaf_words, Pads, leaf_walked}
use Rattle.walked.specs.Loop.{Got, refusing}
use Rattle.numbers.specs.Padded.{pad_of}
use Rattle.reading.specs.Seven.{seven_at}
use Rattle.places.specs.Padding.{no_rows, id_alone, pad_few}
use Rattle.leaves.specs.Plain.{head_of}
use Rattle.targets.specs.Code.{Stands}
use Rattle.targets.specs.Place.{kind_at}
use Rattle.heads.specs.declared.nest.Nest.{Nest}
use Rattle.heads.specs.declared.nest.Below.{Below}
use Rattle.heads.specs.declared.nest.Nest.TheVariants.{Font}
use Rattle.heads.specs.declared.nest.Below.TheVariants.{Nothing, Simple, Nested as Nested-below}
use Rattle.heads.specs.declared.open.Opened.{Opened}
use Rattle.heads.specs.Placed.{row_kind}
use Rattle.heads.specs.Slots.{kind_kept}
use Rattle.heads.specs.Total.{open_as, kind_as}
use Rattle.heads.specs.Pads.{below_pad}
use Rattle.fonts.specs.Bridge.{other_kind}
use Rattle.objects.specs.Beginnings.{Begins, under}
use Rattle.objects.specs.Endings.{close_answer, close_words, keeps}
use Rattle.objects.specs.Close.{row-padding, raw-closed, slots-counted}
use Rattle.steps.specs.declared.Stepped.{Stepped}
use Rattle.steps.specs.declared.Stepped.TheVariants.{Done, Nested}
use Rattle.steps.specs.Known.{Ready}
use Rattle.steps.specs.Walks.{OpenedAs, close_ready, opened}

-- a value that was walked
abbrev pub step_of : Walk → Result Stepped Refusal
step_of (Ok r) = Ok (Done r)
step_of (Err e) = Err e

-- a walk below a value whose own numbers have this padding
abbrev pub topped : (padding : ℕ) → Walk → Walk
topped padding (Ok r) = Ok (atop padding r)
topped padding (Err e) = Err e

-- the row of a value of a kind without a rule, once its children are walked
abbrev pub plain_words : Grid → (w : List ℕ) → Head → (kind children : ℕ) → Walk → List ℕ
plain_words g w h kind n (Ok r) = put_row g w h.row.0 (value_row h kind n (r.used - h.row.0) r.next)
plain_words g w h kind n (Err e) = w

-- only a font has a rule, and its children need the reader list
abbrev pub NoRule : (kind : ℕ) → Below → Type 0
NoRule kind (Nothing padding) = kind ≡ 33 → ⊥
NoRule kind (Simple run) = kind ≡ 33 → ⊥
NoRule kind (Nested-below nest) = Unit {0}

font_below : (file codes : List ℕ) (place at : ℕ) {next : ℕ} {below : Below} → kind_at codes place ≡ 33 → open_as file codes place at ≡ Ok (opened next below) → below ≡ Nested-below Font
unfolding open_as kind_as
font_below file codes place at {next} {below} k e = go (leb (length codes) place) (sym (ap (λ n. cond (leb (length codes) place) (Err (refusal 13 at)) (kind_as file codes n (place + 1) at)) k) ∙ e) where
  go : (b : Bool) → cond {A = Result Opened Refusal} b (Err (refusal 13 at)) (Ok (opened at (Nested-below Font))) ≡ Ok (opened next below) → below ≡ Nested-below Font
  go true q = differ cc
  go false q =
      let y : opened at (Nested-below Font) ≡ opened next below = cc in
      sym (ap (λ (o : Opened). o.below) y)

pub no_rule : (file codes : List ℕ) (place at kind : ℕ) {next : ℕ} (below : Below) → kind ≡ row_kind (kind_at codes place) → open_as file codes place at ≡ Ok (opened next below) → NoRule kind below
no_rule file codes place at kind (Nothing padding) k e = λ q. absurd (let z = font_below file codes place at (kind_kept (kind_at codes place) 33 (λ r. omega arith) (sym k ∙ q)) e in differ cc)
no_rule file codes place at kind (Simple run) k e = λ q. absurd (let z = font_below file codes place at (kind_kept (kind_at codes place) 33 (λ r. omega arith) (sym k ∙ q)) e in differ cc)
no_rule file codes place at kind (Nested-below nest) k e = tt

-- a raw value's head was read, and its children need the reader list
pub record KnownRaw (file codes : List ℕ) (place at next : ℕ) (nest : Nest) : Type 0 where
  pub type : Target
  pub is : Stands file codes place type
  pub opened : OpenedAs file codes type at next (Nested-below nest)

pub record RawLeft (file codes : List ℕ) (t : Target) (place : ℕ) (h : Head) (at : ℕ) (entry exit : List ℕ) (id padding from there next : ℕ) (nest : Nest) : Type 0 where
  pub same : exit ≡ entry
  pub id_is : id ≡ h.detail
  pub padding_is : padding ≡ h.padding
  pub from_is : from ≡ at
  pub place_is : there ≡ place
  pub opened : OpenedAs file codes t at next (Nested-below nest)

pub record Left (file codes : List ℕ) (readers : List Target) (room depth : ℕ) (x : L.Slot) (at used : ℕ) (entry exit : List ℕ) (id padding from place next : ℕ) (nest : Nest) : Type 0 where
  pub same : exit ≡ entry
  pub begins : Begins file codes readers room depth x at used place from id padding
  pub opened : OpenedAs file codes begins.type from next (Nested-below nest)

-- the raw value of a type, whose children have the depth left
abbrev pub raw_of : (file : List ℕ) → List Target → (shared room depth : ℕ) → Target → Head → (at : ℕ) → Outcome
raw_of file readers shared room depth t h at = raw_at file readers shared room (under file readers shared room depth h.row.0) t h.first at h.row.0 h.parent h.detail

-- a raw value of a type is walked, or its children are left
abbrev pub RawSteps : Grid → (file codes : List ℕ) → List Target → (shared depth : ℕ) → Target → (place : ℕ) → Head → (at : ℕ) → (entry exit : List ℕ) → Result Stepped Refusal → Type 0
RawSteps g file codes readers shared depth t place h at entry exit (Ok (Done r)) = Walked g file entry exit h.row.0 (seen (raw_of file readers shared g.room depth t h at)) (Ok r)
RawSteps g file codes readers shared depth t place h at entry exit (Err e) = Walked g file entry exit h.row.0 (seen (raw_of file readers shared g.room depth t h at)) (Err e)
RawSteps g file codes readers shared depth t place h at entry exit (Ok (Nested there from nest padding id next)) = RawLeft file codes t place h at entry exit id.0 padding from there next nest

-- the value in a slot is walked, or it is a raw value whose children are left
abbrev pub Steps : Grid → (file codes : List ℕ) → List Target → (shared depth : ℕ) → L.Slot → (at used parent : ℕ) → (entry exit : List ℕ) → Result Stepped Refusal → Type 0
Steps g file codes readers shared depth x at used parent entry exit (Ok (Done r)) = Walked g file entry exit used (seen (walk file readers shared g.room depth x at used parent)) (Ok r)
Steps g file codes readers shared depth x at used parent entry exit (Err e) = Walked g file entry exit used (seen (walk file readers shared g.room depth x at used parent)) (Err e)
Steps g file codes readers shared depth x at used parent entry exit (Ok (Nested place from nest padding id next)) = Left file codes readers g.room depth x at used entry exit id.0 padding from place next nest

pub raw-told : (g : Grid) (file codes : List ℕ) (readers : List Target) (shared depth : ℕ) (t : Target) (place : ℕ) (h : Head) (at : ℕ) {entry exit : List ℕ} (w : Walk)
    → Walked g file entry exit h.row.0 (seen (raw_of file readers shared g.room depth t h at)) w → RawSteps g file codes readers shared depth t place h at entry exit (step_of w)
raw-told g file codes readers shared depth t place h at (Ok r) c = c
raw-told g file codes readers shared depth t place h at (Err e) c = c

pub value-told : (g : Grid) (file codes : List ℕ) (readers : List Target) (shared depth : ℕ) (x : L.Slot) (at used parent : ℕ) {entry exit : List ℕ} (w : Walk)
    → Walked g file entry exit used (seen (walk file readers shared g.room depth x at used parent)) w → Steps g file codes readers shared depth x at used parent entry exit (step_of w)
value-told g file codes readers shared depth x at used parent (Ok r) c = c
value-told g file codes readers shared depth x at used parent (Err e) c = c

-- a value that is a raw value comes to what that comes to
pub raw_steps : (g : Grid) (file codes : List ℕ) (readers : List Target) (shared depth below : ℕ) (x : L.Slot) (at used parent place from id padding : ℕ) (entry exit : List ℕ) (r : Result Stepped Refusal) → depth ≡ suc below
    → (b : Begins file codes readers g.room depth x at used place from id padding)
    → RawSteps g file codes readers shared below b.type place (head_of used at parent id padding) from entry exit r
    → Steps g file codes readers shared depth x at used parent entry exit r
raw_steps g file codes readers shared depth below x at used parent place from id padding entry exit (Ok (Done r)) q b s = rw (b.is shared below parent q) s
raw_steps g file codes readers shared depth below x at used parent place from id padding entry exit (Err e) q b s = rw (b.is shared below parent q) s
raw_steps g file codes readers shared depth below x at used parent place from id padding entry exit (Ok (Nested l f nest p i next)) q b s =
    rw (s.id_is, s.padding_is, s.from_is, s.place_is) (record { same = s.same; begins = b; opened = s.opened })

-- the children that were left are walked
pub left_walked : (g : Grid) {file codes : List ℕ} {readers : List Target} (shared : ℕ) {depth : ℕ} (below : ℕ) {x : L.Slot} {at used : ℕ} (parent : ℕ) {entry exit last : List ℕ} {id padding from place next : ℕ} {nest : Nest} {r : Walk} → depth ≡ suc below
    → (l : Left file codes readers g.room depth x at used entry exit id padding from place next nest)
    → Walked g file exit last used (seen (raw_of file readers shared g.room below l.begins.type (head_of used at parent id padding) from)) r
    → Walked g file entry last used (seen (walk file readers shared g.room depth x at used parent)) r
left_walked g shared below parent q l c = rw (l.begins.is shared below parent q, ← l.same) c

-- the head was refused, and so is the raw value
pub refusing-head : (g : Grid) (file : List ℕ) {words w : List ℕ} (readers : List Target) (shared depth : ℕ) (t : Target) (h : Head) (at : ℕ) {n p : ℕ} → head_at file t at ≡ refused n p
    → Walked g file words w h.row.0 (seen (raw_of file readers shared g.room depth t h at)) (Err (refusal n p))
unfolding raw_at bind
refusing-head g file readers shared depth t h at e = refusing (rw e)

-- a null's type id is its number
pub null_pads : (file : List ℕ) → Small file → (used at parent : ℕ) {padding : ℕ} → padding ≡ pad_of (seven_at file at) at → Pads file (head_of used at parent 0 padding) 0
unfolding numbered
null_pads file small used at parent q next =
    ap in_word (id_alone file (row 0 at (next - at) 0 parent 0 1) refl refl) ∙ in_word_lem (pad_of (seven_at file at) at) (omega (arith, pad_few file small at)) ∙ sym q

-- how many children there are
abbrev pub Children-are : Grid → (file : List ℕ) → List Target → (shared depth : ℕ) → L.Plan → (next row n : ℕ) → Type 0
Children-are g file readers shared depth plan next row n = (a : Taken) (e : ℕ) → sequence (λ y b v. walk file readers shared g.room depth y b v row) plan next row ≡ read a e → n ≡ count a.2

-- nothing stands below: the raw value is its head
module _ (g : Grid) (file : List ℕ) {codes words : List ℕ} (h : Head) (at : ℕ) {next count : ℕ} (t : Target) (readers : List Target) (shared depth : ℕ) (plain : kind_of t ≡ 33 → ⊥)
    (small : Small file) (r : Ready file words g h at) (lawful : Lawful t) (o : OpenedAs file codes t at next (Nothing count)) where
  -- the value's head with the padding of its count added
  abbrev pub counted : Head
  counted = head_of h.row.0 h.first h.parent h.detail (in_word (h.padding + count))

  stops : o.o.1 ≡ stop
  stops = o.goes

  head_seen : seen (raw_of file readers shared g.room depth t h at) ≡ leaf_of {A = ℕ} h (kind_of t) nothing (read 0 next)
  unfolding raw_at bind check seen sequence Tree.count
  head_seen =
      let one : suc h.row.0 - h.row.0 ≡ 1 = omega arith in
      rw (o.is, stops, other_kind t none plain, one)

  head_pads : Pads file counted (kind_of t)
  head_pads e =
      let x = row (kind_of t) h.first (e - h.first) 0 h.parent h.detail 1 in
      ap in_word (row-padding file t lawful h.first at h.detail h.padding r.ided x [] refl refl refl ∙ omega (arith, o.pads, no_rows file))

  pub head-ends : (kind : ℕ) → kind ≡ kind_of t
      → Walked g file words (leaf_words {A = ℕ} g words counted kind 0 (read 0 next)) h.row.0 (seen (raw_of file readers shared g.room depth t h at)) (leaf_answer {A = ℕ} h.row.0 (in_word (h.padding + count)) (read 0 next))
  head-ends kind k =
      let b = reads_bounds (head_reads file t) small at r.place o.is in
      let free : Free g words h.row.0 = record { long = r.long; there = r.free; few = omega (arith, r.few, r.free) } in
      rw (k, head_seen) (leaf_walked {A = ℕ} g file words counted (kind_of t) nothing (read 0 next) free (omega (arith, r.begun, b.0), omega (arith, b.1, r.short)) head_pads)

-- the children were walked and the raw value, which has no count, ends
pub raw-ends : (g : Grid) (file : List ℕ) {codes words w₁ : List ℕ} (h : Head) (at : ℕ) {next : ℕ} {below : Below} (t : Target) (readers : List Target) (shared depth n kind : ℕ) (walked : Walk)
    → Small file → Ready file words g h at → Lawful t → (o : OpenedAs file codes t at next below) → below_pad below ≡ 0 → Children-are g file readers shared depth o.o.1 next (h.row.0 + 1) n → kind ≡ kind_of t
    → Walked g file words w₁ (h.row.0 + 1) (seen (sequence (λ y b v. walk file readers shared g.room depth y b v (h.row.0 + 1)) o.o.1 next (h.row.0 + 1))) walked
    → Walked g file words (close_words g file w₁ h kind n walked) h.row.0 (seen (raw_of file readers shared g.room depth t h at)) (close_answer g file w₁ h kind at walked)
raw-ends g file {codes} {words} {w₁} h at {next} t readers shared depth n kind walked s r l o z e k c =
    let fits = close_ready t readers shared depth o.o.1 walked s r o.is c in
    let p : Children-are g file readers shared depth o.o.1 next (suc h.row.0) n × Walked g file words w₁ (suc h.row.0) (seen (sequence (λ y b v. walk file readers shared g.room depth y b v (suc h.row.0)) o.o.1 next (suc h.row.0))) walked
    = subst (λ m. Children-are g file readers shared depth o.o.1 next m n × Walked g file words w₁ m (seen (sequence (λ y b v. walk file readers shared g.room depth y b v m) o.o.1 next m)) walked) (add-one h.row.0) (e, c) in
    rw k (raw-closed g file s readers shared depth t l h at words r.long r.few r.free r.ided (sym o.pads ∙ z) o.is o.o.1 refl w₁ n walked fits p.0 p.1)

-- the same for a kind without a rule
pub plain-ends : (g : Grid) (file : List ℕ) {codes words w₁ : List ℕ} (h : Head) (at : ℕ) {next : ℕ} {below : Below} (t : Target) (readers : List Target) (shared depth n kind : ℕ) (walked : Walk)
    → (kind ≡ 33 → ⊥) → Small file → Ready file words g h at → Lawful t → (o : OpenedAs file codes t at next below) → below_pad below ≡ 0 → Children-are g file readers shared depth o.o.1 next (h.row.0 + 1) n → kind ≡ kind_of t
    → Walked g file words w₁ (h.row.0 + 1) (seen (sequence (λ y b v. walk file readers shared g.room depth y b v (h.row.0 + 1)) o.o.1 next (h.row.0 + 1))) walked
    → Walked g file words (plain_words g w₁ h kind n walked) h.row.0 (seen (raw_of file readers shared g.room depth t h at)) (topped h.padding walked)
unfolding keeps
plain-ends g file h at t readers shared depth n kind (Ok r) x s y l o q e k c =
    let z = raw-ends g file h at t readers shared depth n kind (Ok r) s y l o q e k c in
    rw (ne_eqb kind 33 x) at z
plain-ends g file h at t readers shared depth n kind (Err v) x s y l o q e k c = raw-ends g file h at t readers shared depth n kind (Err v) s y l o q e k c

-- children in slots that no child has a say in: none, or as many as a word holds
pub slots_are : (g : Grid) (file : List ℕ) (small : Small file) (readers : List Target) (shared depth : ℕ) (slots : List L.Slot) (next row n : ℕ) → row ≤ g.room → g.room < 2 ^ 32 → n ≡ in_word (length slots)
    → Children-are g file readers shared depth (each slots) next row n
slots_are g file small readers shared depth slots next row n h f z a e q =
    let c = slots-counted g file small readers shared depth slots next row row a e q in
    let b = sequence_bounds file readers shared g.room small depth (each slots) next row row a e q in
    z ∙ in_word_lem (length slots) (omega (arith, c.1, b.fits h)) ∙ sym c.0

-- values that were read, by what equals their words, their end, their rows and the padding of those
pub got_as : {g : Grid} {file : List ℕ} {o : Outcome} {entry exit exit' : List ℕ} {used next next' u u' s s' : ℕ} → Got g file entry exit used o next u s → exit' ≡ exit → next' ≡ next → u' ≡ u → s' ≡ s → Got g file entry exit' used o next' u' s'
got_as y p q r t = rw (p, q, r, t) y

-- the children were refused, and so is the raw value
pub raw-lost : (g : Grid) (file : List ℕ) {codes words w₁ : List ℕ} (h : Head) (at : ℕ) {next : ℕ} {below : Below} (t : Target) (readers : List Target) (shared depth : ℕ) {n p : ℕ}
    → (o : OpenedAs file codes t at next below) → sequence (λ y b v. walk file readers shared g.room depth y b v (h.row.0 + 1)) o.o.1 next (h.row.0 + 1) ≡ refused n p
    → Walked g file words w₁ h.row.0 (seen (raw_of file readers shared g.room depth t h at)) (Err (refusal n p))
unfolding raw_at bind
raw-lost g file h at {next} t readers shared depth {n} {p} o e =
    let q : sequence (λ y b v. walk file readers shared g.room depth y b v (suc h.row.0)) o.o.1 next (suc h.row.0) ≡ refused n p
    = subst (λ m. sequence (λ y b v. walk file readers shared g.room depth y b v m) o.o.1 next m ≡ refused n p) (add-one h.row.0) e in
    refusing (rw (o.is, q))

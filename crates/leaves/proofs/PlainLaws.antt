-- Values that have no children and need no reader list. Assumes nothing.
use Rattle.std.specs.Prelude.{Ok, Err, ◌≡◌, Bool, leb, ltb, eqb, length, get_or, take, drop}
use Rattle.std.proofs.Math.Path.{refl, ap}
use Rattle.std.proofs.Common.{◌∙◌}
use Rattle.std.proofs.Math.Bool.{true, false}
use mathlib.Core.List.{List, [], ◌∷◌}
use Prim.Native.Nat.{ℕ, zero, suc, ◌-◌, ◌≤◌, ◌<◌, ◌^◌}
use native.Mathlib.Omega.{arith}
use borrow.Author.Tests.{lt-ltb, ltb-true}
use Rattle.layout.specs.Target.{Target, fixed, char, enum, kind_of, sprite_font}
use Rattle.layout.specs.Tree.{none, tree}
use Rattle.layout.specs.Fixed.{sizes}
use Rattle.layout.specs.Slot.{field_kind, Leaf, level, blob, leaf_kind, leaf, Plan, stop}
use Rattle.layout.specs.Rows.{row}
use Rattle.layout.specs.Shortest.{numbered}
use Rattle.layout.specs.Mesh.{bone_leaf, code_leaf, size_leaf}
use Rattle.reading.specs.Answer.{Answer, refused, read, bind, check}
use Rattle.reading.specs.Seven.{seven_at, seven_next}
use Rattle.reading.specs.Utf8.{char_at, char_reads}
use Rattle.reading.specs.Reads.{Small, Reads, reads_bounds, some, some_reads, here_reads, field, field_reads}
use Rattle.reading.specs.Fixed.{rule, fixed_at, sized, fixed_reads}
use Rattle.reading.specs.Rules.{same, decided}
use Rattle.reading.specs.Heads.{Opening, head_at, leaf_at, whole, own_at, fixed_head_at, leaf_reads}
use Rattle.reading.specs.Walk.{Outcome, done, sequence, value_at, walk}
use Rattle.table.specs.declared.Grid.{Grid}
use Rattle.table.specs.Word.{in_word, in_word_lem}
use Rattle.answers.specs.declared.Refusal.{Refusal}
use Rattle.walked.specs.Room.{room_as, has_room, no_room}
use mathlib.Core.Logic.{⊎_elim}
use Rattle.walked.specs.declared.Head.{Head}
use Rattle.walked.specs.Contract.{seen, Free, Ahead, Walked}
use Rattle.walked.specs.Loop.{refusing}
use Rattle.walked.specs.Leaf.{leaf_of, leaf_answer, Pads, leaf_walked}
use Rattle.numbers.specs.Padded.{pad_of}
use Rattle.places.specs.Padding.{no_number, id_alone, reference-numbered, sized-plain, pad_few}
use Rattle.leaves.specs.declared.plain.Plain.{Plain}
use Rattle.leaves.specs.declared.plain.Plain.TheVariants.{Fixed, Enum, Char, Level, Reference, Blob, Bone, Code, DataSize}
use Rattle.reading.specs.Drafts.{nothing, resource, drafted}
use Rattle.leaves.specs.Plain.{Begin, Lawful, Stops, head_of, plain_at, plain_pad, plain_seen, plain_slot, plain_value, plain_words, raw-leaf, value_left, value_deep, value-full, value_there}

-- a raw value has no number, and a reference has its resource id
module _ (file : List ℕ) (small : Small file) (used at parent : ℕ) where
  plain_pads : (kind : ℕ) → numbered kind 0 ≡ false → eqb kind 13 ≡ false → Pads file (head_of used at parent 0 0) kind
  unfolding in_word
  plain_pads kind i c next = ap in_word (no_number file (row kind at (next - at) 0 parent 0 1) i c)

  reference_pads : (id : ℕ) → Pads file (head_of used at parent id (pad_of (seven_at file at) at)) 36
  reference_pads id next =
      ap in_word (id_alone file (row 36 at (next - at) 0 parent id 1) (reference-numbered id) refl) ∙ in_word_lem (pad_of (seven_at file at) at) (omega (arith, pad_few file small at))

  -- where the words have the row and the numbers fit
  plain_written : (g : Grid) (w : List ℕ) (p : Plain) → Lawful p → (x : Answer ℕ) → Free g w used → Ahead at x
      → Walked g file w (plain_words g w p (head_of used at parent 0 0) x) used (plain_seen p (head_of used at parent 0 0) x) (leaf_answer used (plain_pad file p 0 at) x)
  unfolding plain_pad numbered
  plain_written g w (Fixed kind size) l x f a =
      let s = sized-plain kind (omega (arith, l)) in
      leaf_walked g file w (head_of used at parent 0 0) kind nothing x f a (plain_pads kind s.0 s.1)
  plain_written g w (Enum size) l x f a = leaf_walked g file w (head_of used at parent 0 0) 15 nothing x f a (plain_pads 15 refl refl)
  plain_written g w Char l x f a = leaf_walked g file w (head_of used at parent 0 0) 12 nothing x f a (plain_pads 12 refl refl)
  plain_written g w (Level size) l x f a = leaf_walked g file w (head_of used at parent 0 0) 35 nothing x f a (plain_pads 35 refl refl)
  plain_written g w (Reference wanted) l (refused n p) f a = record { answers = refl; writes = refl }
  plain_written g w (Reference wanted) l (read id next) f a = leaf_walked g file w (head_of used at parent id (pad_of (seven_at file at) at)) 36 (resource wanted) (read id next) f a (reference_pads id)
  plain_written g w (Blob size) l x f a = leaf_walked g file w (head_of used at parent 0 0) 41 nothing x f a (plain_pads 41 refl refl)
  plain_written g w (Bone bones) l x f a = leaf_walked g file w (head_of used at parent 0 0) 42 nothing x f a (plain_pads 42 refl refl)
  plain_written g w (Code last) l x f a = leaf_walked g file w (head_of used at parent 0 0) 5 nothing x f a (plain_pads 5 refl refl)
  plain_written g w (DataSize flag) l x f a = leaf_walked g file w (head_of used at parent 0 0) 6 nothing x f a (plain_pads 6 refl refl)

fixed-none : (k : ℕ) → same (fixed k) sprite_font ≡ false
unfolding same decided
fixed-none k = refl

enum-none : (name : List ℕ) (z : ℕ) → same (enum name z) sprite_font ≡ false
unfolding same decided
enum-none name z = refl

char-none : same char sprite_font ≡ false
unfolding same decided
char-none = refl

fixed-head : (file : List ℕ) (k z : ℕ) → (z ≡ get_or sizes k 0) × (0 < z) → (at : ℕ) → head_at file (fixed k) at ≡ whole file (fixed_at file k z at)
unfolding head_at fixed_head_at check
fixed-head file k z l at =
    let p : 0 < get_or sizes k 0 = omega arith in
    rw (lt-ltb 0 (get_or sizes k 0) p, l.0)

-- an enum has no rule
enum-head : (file name : List ℕ) (z at : ℕ) → head_at file (enum name z) at ≡ whole file (fixed_at file 15 z at)
unfolding head_at fixed_at field whole bind check rule
enum-head file name z at = go (some file z at at) where
  go : (x : Answer (List ℕ)) → ◌≡◌ {A = Answer Opening} (bind x (λ own e. read (own, stop) e)) (bind (bind x (λ own e. read own e)) (λ own e. read (own, stop) e))
  go (refused n p) = refl
  go (read own e) = refl

char-head : (file : List ℕ) (at : ℕ) → head_at file char at ≡ whole file (own_at file (char_at file) at)
unfolding head_at
char-head file at = refl

-- how many bytes were read matters to no row
sized-leaf : (h : Head) (kind : ℕ) (x : Answer (List ℕ)) → leaf_of h kind nothing x ≡ leaf_of h kind nothing (sized x)
unfolding sized
sized-leaf h kind (refused n p) = refl
sized-leaf h kind (read own e) = refl

module _ (file : List ℕ) (readers : List Target) (shared room : ℕ) (below : Plan → ℕ → ℕ → Outcome) (stops : Stops below) where
  char_own : (at : ℕ) (h : Head) (k : ℕ) → leaf_of h k nothing (own_at file (char_at file) at) ≡ leaf_of h k nothing (char_at file at)
  unfolding own_at bind
  char_own at h k = go (char_at file at) where
    go : (r : Answer ℕ) → leaf_of h k nothing (bind r (λ c e. read (take (e - at) (drop at file)) e)) ≡ leaf_of h k nothing r
    go (refused n p) = refl
    go (read c e) = refl

  -- a leaf, by what reading it answers
  kind_seen : (k : ℕ) (r : Answer (List ℕ)) (at used parent : ℕ)
      → seen (bind r (λ own next. done next (suc used) (drafted (row k at (next - at) 0 parent 0 1) ∷ []) (tree k 0 own none none))) ≡ leaf_of (head_of used at parent 0 0) k nothing r
  unfolding bind seen
  kind_seen k (refused n p) at used parent = refl
  kind_seen k (read own e) at used parent = refl

  leaf-seen : (x : Leaf) (at used parent : ℕ) → seen (value_at file readers shared room below (leaf x) at used parent) ≡ leaf_of (head_of used at parent 0 0) (leaf_kind x) nothing (sized (leaf_at file x at))
  unfolding value_at
  leaf-seen x at used parent = kind_seen (leaf_kind x) (leaf_at file x at) at used parent ∙ sized-leaf (head_of used at parent 0 0) (leaf_kind x) (leaf_at file x at)

  reference_seen : (r : Answer ℕ) (wanted at used parent : ℕ)
      → seen (bind r (λ id next. check (leb id shared) 16 at (done next (suc used) (record { row = row 36 at (next - at) 0 parent id 1; wants = resource wanted } ∷ []) (tree 36 id [] none none))))
      ≡ plain_seen (Reference wanted) (head_of used at parent 0 0) (bind r (λ id next. check (leb id shared) 16 at (read id next)))
  unfolding bind seen check
  reference_seen (refused n p) wanted at used parent = refl
  reference_seen (read id e) wanted at used parent = go (leb id shared) where
    go : (t : Bool) → seen (check t 16 at (done e (suc used) (record { row = row 36 at (e - at) 0 parent id 1; wants = resource wanted } ∷ []) (tree 36 id [] none none)))
        ≡ plain_seen (Reference wanted) (head_of used at parent 0 0) (check t 16 at (read id e))
    go true = refl
    go false = refl

  -- what a value in such a slot answers, whatever the reader list is
  plain_seen_lem : (p : Plain) → Lawful p → (at used parent : ℕ)
      → seen (value_at file readers shared room below (plain_slot p) at used parent) ≡ plain_seen p (head_of used at parent 0 0) (plain_at file shared p at)
  unfolding value_at plain_at kind_of field_kind
  plain_seen_lem (Fixed kind size) l at used parent =
      (raw-leaf file readers shared room below stops) (fixed kind) (fixed-none kind) (fixed_at file kind size at) at at used parent 0 0 (fixed-head file kind size l at) ∙ sized-leaf (head_of used at parent 0 0) kind (fixed_at file kind size at)
  plain_seen_lem (Enum size) l at used parent =
      (raw-leaf file readers shared room below stops) (enum [] size) (enum-none [] size) (fixed_at file 15 size at) at at used parent 0 0 (enum-head file [] size at) ∙ sized-leaf (head_of used at parent 0 0) 15 (fixed_at file 15 size at)
  plain_seen_lem Char l at used parent =
      (raw-leaf file readers shared room below stops) char char-none (own_at file (char_at file) at) at at used parent 0 0 (char-head file at) ∙ char_own at (head_of used at parent 0 0) 12
  plain_seen_lem (Level size) l at used parent = leaf-seen (level size) at used parent
  plain_seen_lem (Reference wanted) l at used parent = reference_seen (seven_at file at) wanted at used parent
  plain_seen_lem (Blob size) l at used parent = leaf-seen (blob size) at used parent
  plain_seen_lem (Bone bones) l at used parent = leaf-seen (bone_leaf bones) at used parent
  plain_seen_lem (Code last) l at used parent = leaf-seen (code_leaf last) at used parent
  plain_seen_lem (DataSize flag) l at used parent = leaf-seen (size_leaf flag) at used parent

-- what is read from inside a file ends inside it
ahead_read : {file : List ℕ} {A : Type 0} {F : A → List ℕ → Type 0} {r : ℕ → Answer A} → Reads file F r → Small file
    → (at : ℕ) → at ≤ length file → length file < 2 ^ 32 → Ahead at (r at)
ahead_read {file} {A} {F} {r} x s at h f = go (r at) refl where
  go : (o : Answer A) → r at ≡ o → Ahead at o
  go (refused n p) e = tt
  go (read a e') e = let b = reads_bounds x s at h e in (b.0, omega arith)

ahead_sized : (at : ℕ) (x : Answer (List ℕ)) → Ahead at x → Ahead at (sized x)
unfolding sized
ahead_sized at (refused n p) h = h
ahead_sized at (read own e) h = h

ahead_leaf : (file : List ℕ) → Small file → (x : Leaf) (at : ℕ) → at ≤ length file → length file < 2 ^ 32 → Ahead at (sized (leaf_at file x at))
ahead_leaf file s x at h f = ahead_sized at (leaf_at file x at) (ahead_read (leaf_reads file x) s at h f)

plain_ahead : (file : List ℕ) → Small file → (shared : ℕ) (p : Plain) → Lawful p → (at : ℕ) → at ≤ length file → length file < 2 ^ 32 → Ahead at (plain_at file shared p at)
unfolding plain_at bind check fixed_at
plain_ahead file s shared (Fixed kind size) l at h f = rw l.0 (ahead_sized at (fixed_at file kind (get_or sizes kind 0) at) (ahead_read (fixed_reads file kind (omega arith)) s at h f))
plain_ahead file s shared (Enum size) l at h f =
    ahead_sized at (fixed_at file 15 size at) (ahead_read (here_reads file (λ p. field_reads file (rule 15) (λ own. own) p (some_reads file size p))) s at h f)
plain_ahead file s shared Char l at h f = ahead_read (char_reads file) s at h f
plain_ahead file s shared (Level size) l at h f = ahead_leaf file s (level size) at h f
plain_ahead file s shared (Blob size) l at h f = ahead_leaf file s (blob size) at h f
plain_ahead file s shared (Bone bones) l at h f = ahead_leaf file s (bone_leaf bones) at h f
plain_ahead file s shared (Code last) l at h f = ahead_leaf file s (code_leaf last) at h f
plain_ahead file s shared (DataSize flag) l at h f = ahead_leaf file s (size_leaf flag) at h f
plain_ahead file s shared (Reference wanted) l at h f = go (seven_at file at) refl where
  told : (b : Bool) (id next : ℕ) → (at ≤ next) × (next < 2 ^ 32) → Ahead at (check b 16 at (read id next))
  told true id next a = a
  told false id next a = tt

  go : (x : Answer ℕ) → seven_at file at ≡ x → Ahead at (bind x (λ id next. check (leb id shared) 16 at (read id next)))
  go (refused n p) e = tt
  go (read id next) e = told (leb id shared) id next (omega (arith, seven_next file s at e))

-- a value of fixed size is read alike whatever the shared count is
fixed_alike : (file : List ℕ) (room shared other kind size at used depth : ℕ) → plain_value file room shared (Fixed kind size) at used depth ≡ plain_value file room other (Fixed kind size) at used depth
unfolding plain_value plain_at
fixed_alike file room shared other kind size at used zero = refl
fixed_alike file room shared other kind size at used (suc d) = refl

-- what the walk answers, where the value may begin
module _ (file : List ℕ) (g : Grid) (shared : ℕ) (p : Plain) (at used : ℕ) (w : List ℕ) (small : Small file) (begin : Begin file w g at used) (l : Lawful p) (readers : List Target) where
  by_room : (d parent : ℕ) (t : Bool) → ltb used g.room ≡ t
      → Walked g file w (value_left g file w shared p at used (suc d) parent) used (seen (walk file readers shared g.room (suc d) (plain_slot p) at used parent)) (leaf_answer used (plain_pad file p 0 at) (plain_value file g.room shared p at used (suc d)))
  unfolding plain_value walk check sequence
  by_room d parent false e = rw e (refusing refl)
  by_room d parent true e =
      let v = plain_seen_lem file readers shared g.room (λ plan a u. sequence (λ y b v. walk file readers shared g.room d y b v (suc used)) plan a u) (λ next u. refl) p l at used parent in
      let u : used < g.room = ltb-true used g.room e in
      let f : Free g w used = record { long = begin.long; there = u; few = omega (arith, begin.few) } in
      rw (e, v) (plain_written file small used at parent g w p l (plain_at file shared p at) f (plain_ahead file small shared p l at begin.place begin.short))

  pub plain_walked : (depth parent : ℕ)
      → Walked g file w (value_left g file w shared p at used depth parent) used (seen (walk file readers shared g.room depth (plain_slot p) at used parent)) (leaf_answer used (plain_pad file p 0 at) (plain_value file g.room shared p at used depth))
  unfolding plain_value walk
  plain_walked zero parent = refusing refl
  plain_walked (suc d) parent = by_room d parent (ltb used g.room) refl

-- the same for a value of fixed size, read with no word of the shared count
pub fixed_walked : (file : List ℕ) (g : Grid) (shared kind size at used : ℕ) (w : List ℕ) → Small file → Begin file w g at used → Lawful (Fixed kind size) → (readers : List Target) (depth parent : ℕ)
    → Walked g file w (value_left g file w 0 (Fixed kind size) at used depth parent) used (seen (walk file readers shared g.room depth (plain_slot (Fixed kind size)) at used parent)) (leaf_answer used 0 (plain_value file g.room 0 (Fixed kind size) at used depth))
unfolding plain_pad
fixed_walked file g shared kind size at used w small begin l readers depth parent =
    rw (fixed_alike file g.room 0 shared kind size at used depth) (plain_walked file g shared (Fixed kind size) at used w small begin l readers depth parent)

-- a value that may have no row, and one that may
module _ (file : List ℕ) (room shared : ℕ) (p : Plain) (at used depth : ℕ) where
  pub value-stops : {e : Refusal} → Err e ≡ room_as depth room used at → plain_value file room shared p at used depth ≡ refused e.number e.place
  value-stops h =
      ⊎_elim (λ w. rw w.1 (value_deep file room shared p at used depth w.0)) (λ w. rw w.2 (value-full file room shared p at used depth w.0 w.1))
      (no_room depth room used at h)

  pub value-goes : {u : Unit {0}} → Ok u ≡ room_as depth room used at → plain_value file room shared p at used depth ≡ plain_at file shared p at
  value-goes h =
      let r = has_room depth room used at h in
      value_there file room shared p at used depth r.0 r.1

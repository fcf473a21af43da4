-- What is left, a step of the code at a time. Assumes nothing.
use Rattle.std.specs.Prelude.{Result, Ok, Err, ◌≡◌, true, false, List, ℕ, suc, ◌+◌, ◌-◌, ◌≤◌, ◌<◌, leb, length, take, drop}
use Rattle.std.proofs.Common.{arith}
use borrow.Author.Tests.{eq-eqb, ne_eqb, le-leb, lt-leb}
use Rattle.layout.specs.EnumList.{EnumEntry}
use Rattle.targets.specs.Code.{prelude_size}
use Rattle.targets.specs.declared.Unresolved.{Unresolved}
use Rattle.targets.specs.Contract.{told, Resolves}
use Rattle.reading.specs.Answer.{refused, read}
use Rattle.reading.specs.Seven.{seven_at}
use Rattle.numbers.specs.Padded.{pad_of}
use Rattle.answers.specs.declared.Refusal.{Refusal}
use Rattle.answers.specs.Refusals.{refusal}
use Rattle.readers.specs.declared.Reader.{Reader}
use Rattle.readers.specs.declared.Ended.{Ended}
use Rattle.readers.specs.declared.Unlisted.TheVariants.{Refused, NoRoom}
use Rattle.readers.specs.Parts.{up_to}
use Rattle.readers.specs.Left.{after_name, named_left, reader_left, Arrays, arrays, onward, ended, readers_from, readers_left, behind_readers, shared_left, codes_for, lists_left}

-- a name was resolved
pub name-missing : (es : List EnumEntry) (file codes : List ℕ) (used at first n : ℕ) → leb n (length (drop first file)) ≡ false → named_left es file codes used at first n ≡ (Err (refusal 1 at), codes)
unfolding named_left
name-missing es file codes used at first n t = rw t

pub name_resolved : (es : List EnumEntry) (file codes : List ℕ) (used at first n : ℕ) → leb n (length (drop first file)) ≡ true
    → (s c' : List ℕ) (r : Result ℕ Unresolved) → s ≡ take n (drop first file) → Resolves es s first codes c' used r → named_left es file codes used at first n ≡ (after_name file at first n (told r), c')
unfolding named_left
name_resolved es file codes used at first n t s c' r e v = rw (t, ← e, ← v.answers, ← v.writes)

module _ (es : List EnumEntry) (file codes : List ℕ) (used at : ℕ) where
  pub count-refused : {n p : ℕ} → seven_at file at ≡ refused n p → reader_left es file codes used at ≡ (Err (refusal n p), codes)
  unfolding reader_left
  count-refused e = rw e

  module _ {n first : ℕ} (e : seven_at file at ≡ read n first) where
    pub count_empty : n ≡ 0 → reader_left es file codes used at ≡ (Err (refusal 9 at), codes)
    unfolding reader_left
    count_empty h = rw (e, eq-eqb n 0 h)

    pub count_long : (n ≡ 0 → ⊥) → 1024 < n → reader_left es file codes used at ≡ (Err (refusal 9 at), codes)
    unfolding reader_left
    count_long z h = rw (e, ne_eqb n 0 z, lt-leb n 1024 h)

    pub count_fits : (n ≡ 0 → ⊥) → n ≤ 1024 → reader_left es file codes used at ≡ named_left es file codes used at first n
    unfolding reader_left
    count_fits z h = rw (e, ne_eqb n 0 z, le-leb n 1024 h)

-- none of n was read yet
pub readers-start : (es : List EnumEntry) (file : List ℕ) (n next : ℕ) (c t s : List ℕ) → readers_from es file (n - 0) 0 prelude_size next 0 c t s ≡ readers_left es file n next c t s
readers-start es file n next c t s =
    let m : n - 0 ≡ n = omega arith in
    rw m

-- reader i of n, as it was read
pub reader-turn : (es : List EnumEntry) (file : List ℕ) (n i used next sum : ℕ) (c t s c' : List ℕ) (o : Result Reader Refusal) → i < n → o ≡ (reader_left es file c used next).0 → c' ≡ (reader_left es file c used next).1
    → readers_from es file (n - i) i used next sum c t s
    ≡ onward o c' t s i used (λ end after c'' t' s'. readers_from es file (n - (i + 1)) (i + 1) end after (sum + pad_of (seven_at file next) next) c'' t' s')
unfolding readers_from
reader-turn es file n i used next sum c t s c' o h e w =
    let m : n - i ≡ suc (n - (i + 1)) = omega arith in
    rw (m, ← e, ← w)

pub readers-end : (es : List EnumEntry) (file : List ℕ) (n i used next sum : ℕ) (c t s : List ℕ) → n ≤ i → readers_from es file (n - i) i used next sum c t s ≡ (Ok (ended sum next), arrays c t s)
unfolding readers_from
readers-end es file n i used next sum c t s h =
    let m : n - i ≡ 0 = omega arith in
    rw m

-- n readers were read, or one was refused
pub shared_left_lem : (es : List EnumEntry) (file : List ℕ) (n at own : ℕ) (c t s : List ℕ) {m : Result Ended Refusal} {a : Arrays} → readers_left es file n at c t s ≡ (m, a)
    → shared_left es file n at own c t s ≡ (behind_readers file n own m, a)
unfolding shared_left
shared_left_lem es file n at own c t s e = rw e

-- by the file's size and the reader count
module _ (es : List EnumEntry) (file : List ℕ) (at : ℕ) (c t s : List ℕ) where
  pub left_long : 16777216 < length file → lists_left es file at c t s ≡ (Err (Refused (refusal 9 0)), arrays c t s)
  unfolding lists_left
  left_long h = rw (lt-leb (length file) 16777216 h)

  module _ (h : length file ≤ 16777216) where
    pub left_refused : {k p : ℕ} → up_to 64 file at ≡ refused k p → lists_left es file at c t s ≡ (Err (Refused (refusal k p)), arrays c t s)
    unfolding lists_left
    left_refused e = rw (le-leb (length file) 16777216 h, e)

    module _ {n next : ℕ} (e : up_to 64 file at ≡ read n next) where
      pub left_full : length c < codes_for n → lists_left es file at c t s ≡ (Err NoRoom, arrays c t s)
      unfolding lists_left
      left_full r = rw (le-leb (length file) 16777216 h, e, lt-leb (codes_for n) (length c) r)

      pub left_counted : codes_for n ≤ length c → lists_left es file at c t s ≡ shared_left es file n next (pad_of (seven_at file at) at) c t s
      unfolding lists_left
      left_counted r = rw (le-leb (length file) 16777216 h, e, le-leb (codes_for n) (length c) r)

-- Values of one kind and size that follow each other: how their rows are put at once is how they are put one after the other. Assumes nothing.
use Rattle.std.specs.Prelude.{◌≡◌, List, ℕ, zero, suc, ◌+◌, ◌*◌, ◌-◌, ◌≤◌, ◌<◌, ◌^◌}
use Rattle.std.proofs.Math.Path.{refl, ap}
use Rattle.std.proofs.Common.{sym, ◌∙◌, mul-suc, mul_comm, add-one}
use native.Mathlib.Omega.{arith}
use Rattle.std.proofs.lemmas.List.{length-replicate}
use Rattle.laws.specs.Small.{differ}
use Rattle.layout.specs.Rows.{row}
use Rattle.reading.specs.Answer.{Answer, refused, read}
use Rattle.reading.specs.Utf8.{size, mark}
use Rattle.table.specs.declared.Grid.{Grid}
use Rattle.table.specs.Word.{in_word, in_word_lem}
use Rattle.table.specs.Put.{put_row}
use Rattle.table.specs.Runs.{put_run}
use Rattle.walked.specs.declared.Head.{Head}
use Rattle.walked.specs.Contract.{Walk, reaching}
use Rattle.walked.specs.Leaf.{mute, value_row, leaf_answer, leaf_words}
use Rattle.leaves.specs.declared.plain.Plain.{Plain}
use Rattle.leaves.specs.declared.plain.Plain.TheVariants.{Fixed, Enum, Char, Level, Reference, Blob, Bone, Code, DataSize}
use Rattle.leaves.specs.declared.run.Run.TheVariants.{Same}
use Rattle.leaves.specs.Plain.{head_of, plain_at, plain_pad, plain_value, plain_words, value_left, value_there}
use Rattle.leaves.specs.Run.{turn_of, run_from, run_of, run-turn, run_end}
use Rattle.leaves.specs.Same.{Kept, Uniform, ValueKept}

-- what is read by how much of it is known
answer-mute : {A : Type 0} (u padding e : ℕ) (x : Answer A) → mute x ≡ read tt e → leaf_answer u padding x ≡ reaching (in_word (u + 1)) padding e
unfolding mute
answer-mute u padding e (refused n p) q = differ cc
answer-mute u padding e (read a f) q = let z : f ≡ e = cc in rw z

words-mute : {A : Type 0} (g : Grid) (w : List ℕ) (h : Head) (kind mark e : ℕ) (x : Answer A) → mute x ≡ read tt e → leaf_words g w h kind mark x ≡ put_row g w h.row.0 (value_row h kind mark 1 e)
unfolding mute
words-mute g w h kind mark e (refused n p) q = differ cc
words-mute g w h kind mark e (read a f) q = let z : f ≡ e = cc in rw z

module _ (g : Grid) (file : List ℕ) (shared depth parent : ℕ) where
  -- one value
  one_answer : (p : Plain) (kind size at used : ℕ) → Uniform p kind size → ValueKept file kind size at → mute (plain_at file shared p at) ≡ read tt (at + size)
  unfolding plain_at
  one_answer (Fixed k z) kind size at used u v = rw (u.0, u.1) v.0
  one_answer (Enum z) kind size at used u v = rw (u.0, u.1) v.0
  one_answer Char kind size at used u v = rw (sym u.1) (v.1 (sym u.0))
  one_answer (Level _) kind size at used u v = elim u [ ]
  one_answer (Reference _) kind size at used u v = elim u [ ]
  one_answer (Blob _) kind size at used u v = elim u [ ]
  one_answer (Bone _) kind size at used u v = elim u [ ]
  one_answer (Code _) kind size at used u v = elim u [ ]
  one_answer (DataSize _) kind size at used u v = elim u [ ]

  one_pad : (p : Plain) (kind size at : ℕ) → Uniform p kind size → plain_pad file p 0 at ≡ 0
  unfolding plain_pad
  one_pad (Fixed k z) kind size at u = refl
  one_pad (Enum z) kind size at u = refl
  one_pad Char kind size at u = refl
  one_pad (Level _) kind size at u = elim u [ ]
  one_pad (Reference _) kind size at u = elim u [ ]
  one_pad (Blob _) kind size at u = elim u [ ]
  one_pad (Bone _) kind size at u = elim u [ ]
  one_pad (Code _) kind size at u = elim u [ ]
  one_pad (DataSize _) kind size at u = elim u [ ]

  one_words : (w : List ℕ) (p : Plain) (kind size at used : ℕ) (x : Answer ℕ) → Uniform p kind size
      → plain_words g w p (head_of used at parent 0 0) x ≡ leaf_words g w (head_of used at parent 0 0) kind 0 x
  one_words w (Fixed k z) kind size at used x u = rw u.0
  one_words w (Enum z) kind size at used x u = rw u.0
  one_words w Char kind size at used x u = rw u.0
  one_words w (Level _) kind size at used x u = elim u [ ]
  one_words w (Reference _) kind size at used x u = elim u [ ]
  one_words w (Blob _) kind size at used x u = elim u [ ]
  one_words w (Bone _) kind size at used x u = elim u [ ]
  one_words w (Code _) kind size at used x u = elim u [ ]
  one_words w (DataSize _) kind size at used x u = elim u [ ]

  module _ (p : Plain) (kind size at used : ℕ) (w : List ℕ) (u : Uniform p kind size) (kept : ValueKept file kind size at) (there : used < g.room) (few : g.room < 2 ^ 32) (deep : 0 < depth) where
    v : plain_value file g.room shared p at used depth ≡ plain_at file shared p at
    v = value_there file g.room shared p at used depth (λ e. omega arith) there

    k : mute (plain_at file shared p at) ≡ read tt (at + size)
    k = one_answer p kind size at used u kept

    turn_answer : leaf_answer used (plain_pad file p 0 at) (plain_value file g.room shared p at used depth) ≡ reaching (used + 1) 0 (at + size)
    turn_answer =
        let z : in_word (used + 1) ≡ used + 1 = in_word_lem (used + 1) (omega arith) in
        rw (v, one_pad p kind size at u) (answer-mute used 0 (at + size) (plain_at file shared p at) k ∙ ap (λ (m : ℕ). reaching m 0 (at + size)) z)

    turn_words : value_left g file w shared p at used depth parent ≡ put_row g w used (row kind (in_word at) (in_word size) 0 parent 0 1)
    turn_words =
        let bytes : at + size - at ≡ size = omega arith in
        rw (v, one_words w p kind size at used (plain_at file shared p at) u)
        (words-mute g w (head_of used at parent 0 0) kind 0 (at + size) (plain_at file shared p at) k ∙ ap (λ (b : ℕ). put_row g w used (row kind (in_word at) (in_word b) 0 parent 0 1)) bytes)

  module _ (p : Plain) (kind size n at used : ℕ) (w : List ℕ) (u : Uniform p kind size) (kept : Kept file kind size at n)
      (room : used + n ≤ g.room) (few : g.room < 2 ^ 32) (deep : 0 < depth) where
    -- the words with the first i rows, and what is left after them
    abbrev rows : (i : ℕ) → List ℕ
    rows i = put_run g used kind at size parent w i

    abbrev left : (l i a r s : ℕ) → List ℕ → Walk × List ℕ
    left l i a r s x = run_from g file shared (Same p n) depth parent l i a r s x

    abbrev from : (i : ℕ) → Walk × List ℕ
    from i = left (n - i) i (at + i * size) (used + i) 0 (rows i)

    turned : (i : ℕ) → p ≡ turn_of (Same p n) i
    unfolding turn_of
    turned i = refl

    close : (l i a b r q s : ℕ) (x y : List ℕ) → a ≡ b → r ≡ q → s ≡ 0 → x ≡ y → left l i a r s x ≡ left l i b q 0 y
    close l i a b r q s x y e f z h = rw (e, f, z, h)

    zero_word : in_word (0 + 0) ≡ 0
    zero_word = in_word_lem 0 (omega arith)

    more : (i : ℕ) → put_row g (rows i) (used + i) (row kind (in_word (at + i * size)) (in_word size) 0 parent 0 1) ≡ rows (i + 1)
    unfolding put_run
    more i = rw (add-one i)

    turn_same : (i : ℕ) → i < n → from i ≡ from (i + 1)
    turn_same i h =
        let next : at + i * size + size ≡ at + (i + 1) * size = omega (arith, mul_comm (suc i) size, mul-suc size i, mul_comm i size, ap (λ (j : ℕ). j * size) (add-one i)) in
        run-turn g file shared (Same p n) depth parent n i (at + i * size) (used + i) 0 (rows i)
        (put_row g (rows i) (used + i) (row kind (in_word (at + i * size)) (in_word size) 0 parent 0 1)) p (reaching (used + i + 1) 0 (at + i * size + size)) h (turned i)
        (sym (turn_answer p kind size (at + i * size) (used + i) (rows i) u (kept i h) (omega arith) few deep))
        (sym (turn_words p kind size (at + i * size) (used + i) (rows i) u (kept i h) (omega arith) few deep))
        ∙ close (n - (i + 1)) (i + 1) (at + i * size + size) (at + (i + 1) * size) (used + i + 1) (used + (i + 1)) (in_word (0 + 0)) _ _ next (omega arith) zero_word (more i)

    turns_same : (i : ℕ) → i ≤ n → from 0 ≡ from i
    turns_same zero h = refl
    turns_same (suc i) h = turns_same i (omega arith) ∙ turn_same i h ∙ ap from (add-one i)

    start : left n 0 at used 0 w ≡ from 0
    unfolding put_run
    start =
        let z : at ≡ at + 0 * size = omega arith in
        let y : used ≡ used + 0 = omega arith in
        let m : n ≡ n - 0 = omega arith in
        close n 0 at (at + 0 * size) used (used + 0) 0 w w z y refl refl ∙ ap (λ (l : ℕ). left l 0 (at + 0 * size) (used + 0) 0 w) m

    -- all of them
    pub same_run : run_of g file shared (Same p n) depth parent at used w ≡ (reaching (used + n) 0 (at + n * size), put_run g used kind at size parent w n)
    same_run =
        ap (λ (m : ℕ). left m 0 at used 0 w) (length-replicate n _) ∙ start ∙ turns_same n (omega arith)
        ∙ run_end g file shared (Same p n) depth parent n n (at + n * size) (used + n) 0 (rows n) (omega arith)

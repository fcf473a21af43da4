-- A file that is loaded in a part of the table, under a lent list of enum types: with more room it has the same answer, unless there was no row left. Assumes nothing.
use Rattle.std.specs.Prelude.{◌≡◌, Bool, true, false, List, ◌∷◌, ◌++◌, ℕ, zero, suc, ◌+◌, ◌*◌, ◌-◌, ◌≤◌, min, length, drop, replicate, Err}
use Rattle.std.proofs.Math.Path.{refl}
use Rattle.std.proofs.Common.{sym, ap, ◌∙◌, append_assoc, arith, length-append, length-drop}
use Rattle.std.proofs.lemmas.List.{length-replicate}
use Rattle.laws.specs.Small.{differ}
use Rattle.layout.specs.Rows.{flat, width}
use Rattle.layout.specs.Table.{room_of}
use Rattle.reading.specs.Answer.{Answer}
use Rattle.reading.specs.File.{Loaded, file_at, Load, refusal, accepted, to_load, table_of, table_in}
use Rattle.reading.specs.References.{length-flat}
use Rattle.enums.specs.Judge.{Judgement, lawful, enums_at}
use Rattle.enums.specs.Judge.{refused as list-refused}
use Rattle.readers.specs.Judged.{judged_name}
use Rattle.load.specs.Under.{under_list, file_under, load_under}
use Rattle.load.specs.Loads.{Loading, answer_of}
use Rattle.answers.specs.Refusals.{refusal as broken}
use Rattle.load_part.specs.Grows.{Grows, alike, full, file_grows}

-- 02, Req 14: "Each XNB file is read with room for 65,536 rows", under one list of enum types
abbrev pub opened : (enums : List ℕ) → List ℕ → Answer Loaded
opened enums content = file_under enums content 65536

-- with more room a file is read as with less, unless there was no row left
pub under_grows : (enums file : List ℕ) (room room' : ℕ) → room ≤ room' → Grows (file_under enums file room) (file_under enums file room')
unfolding file_under under_list
under_grows enums file room room' h = go (enums_at enums) where
  go : (j : Judgement) → Grows (under_list j (λ es. file_at (judged_name es) file room)) (under_list j (λ es. file_at (judged_name es) file room'))
  go (list-refused n i) = alike
  go (lawful es) = file_grows (judged_name es) file room room' h

-- how many words so many rows have, of so many that are lent: as far as there is room
unfoldable pub first_words : (rows words : ℕ) → ℕ
first_words rows words = width * min rows (room_of words)

-- the first words have no more room than all
room_first : (rows words : ℕ) → room_of (first_words rows words) ≤ room_of words
unfolding room_of first_words
room_first rows words = omega arith

-- whether an answer is any but 19, so that it is the same with more room
abbrev pub NotFull : Bool → Loading → Type 0
NotFull true told = (p : ℕ) → told ≡ Err (broken 19 p) → ⊥
NotFull false told = (p : ℕ) × (told ≡ Err (broken 19 p))

-- a file is loaded in so many of the words; where all were zeros, they hold its table
abbrev pub LoadsIn : (enums file entry exit : List ℕ) (part : ℕ) → Loading → Type 0
LoadsIn enums file entry exit part told =
    (told ≡ answer_of file (load_under enums file part)) × (entry ≡ replicate (length entry) 0 → exit ≡ table_of (load_under enums file part) (length entry))

-- ---- What a caller is told

-- with less room and with more
module _ (enums file : List ℕ) (less more : ℕ) (room : room_of less ≤ room_of more) where
  abbrev small-answer : Load
  small-answer = load_under enums file less

  abbrev whole-answer : Load
  whole-answer = load_under enums file more

  by_load : {x y : Answer Loaded} → Grows x y → ((p : ℕ) → to_load x ≡ refusal 19 p → ⊥) → to_load x ≡ to_load y
  unfolding to_load
  by_load alike n = refl
  by_load (full {p = p}) n = absurd (n p refl)

  -- an answer other than 19 is the answer with more room
  pub same_answer : ((p : ℕ) → small-answer ≡ refusal 19 p → ⊥) → small-answer ≡ whole-answer
  unfolding load_under
  same_answer n = by_load (under_grows enums file (room_of less) (room_of more) room) n

-- ---- What the words hold

pub replicate-append : (n m : ℕ) → replicate {A = ℕ} n 0 ++ replicate m 0 ≡ replicate (n + m) 0
replicate-append zero m = let z : 0 + m ≡ m = omega arith in rw z
replicate-append (suc n) m = let z : suc n + m ≡ suc (n + m) = omega arith in rw z (ap (λ (l : List ℕ). 0 ∷ l) (replicate-append n m))

-- the table of a part, with zeros behind it, is the table of the whole
pub part-table : (x : Load) (part words : ℕ) → part ≤ words → length (table_of x part) ≡ part → table_of x part ++ replicate (words - part) 0 ≡ table_of x words
unfolding table_in
part-table (refusal n p) part words h l =
    let e : part + (words - part) ≡ words = omega arith in
    replicate-append part (words - part) ∙ rw e refl
part-table (accepted rows readers shared) part words h l =
    let fits : width * length rows ≤ part = omega (arith, l, length-append (flat rows) (replicate (part - width * length rows) 0), length-flat rows, length-replicate {A = ℕ} (part - width * length rows) 0) in
    let e : part - width * length rows + (words - part) ≡ words - width * length rows = omega arith in
    append_assoc (flat rows) (replicate (part - width * length rows) 0) (replicate (words - part) 0)
    ∙ rw (replicate-append (part - width * length rows) (words - part), e) refl

drop-replicate : (n m : ℕ) → drop n (replicate {A = ℕ} m 0) ≡ replicate (m - n) 0
drop-replicate zero m = let z : m - 0 ≡ m = omega arith in rw z
drop-replicate (suc n) zero = let z : 0 - suc n ≡ 0 = omega arith in rw z
drop-replicate (suc n) (suc m) = let z : suc m - suc n ≡ m - n = omega arith in rw z (drop-replicate n m)

-- a file that was loaded into the first words of a table of zeros
pub part_left : (x : Load) (entry last : List ℕ) (part : ℕ) → part ≤ length entry → last ≡ table_of x part → length (last ++ drop part entry) ≡ length entry
    → entry ≡ replicate (length entry) 0 → last ++ drop part entry ≡ table_of x (length entry)
part_left x entry last part h t l z =
    let d : drop part entry ≡ replicate (length entry - part) 0 = ap (drop part) z ∙ drop-replicate part (length entry) in
    let m : length last ≡ part = omega (arith, l, length-append last (drop part entry), length-drop part entry) in
    rw (d, t) (part-table x part (length entry) h (rw t at m))

-- a refused file leaves zeros
refused-table : (n p words : ℕ) → table_of (refusal n p) words ≡ replicate words 0
unfolding table_in
refused-table n p words = refl

-- ---- One load after another

module _ (enums file entry exit : List ℕ) {told : Loading} where
  -- where the answer in the first words is not 19, the file is loaded in all
  pub first_not_full : (rows : ℕ) → LoadsIn enums file entry exit (first_words rows (length entry)) told → (b : Bool) → NotFull b told → b ≡ true
      → LoadsIn enums file entry exit (length entry) told
  first_not_full rows (e, t) true s b =
      let x = same_answer enums file (first_words rows (length entry)) (length entry) (room_first rows (length entry)) (λ p q. s p (e ∙ ap (answer_of file) q)) in
      (e ∙ ap (answer_of file) x, λ z. t z ∙ ap (λ y. table_of y (length entry)) x)
  first_not_full rows l false s b = differ cc

  -- where it does not, the words are still zeros
  pub first_full : (part : ℕ) → LoadsIn enums file entry exit part told → (b : Bool) → NotFull b told → b ≡ false
      → entry ≡ replicate (length entry) 0 → exit ≡ replicate (length entry) 0
  first_full part l true s b z = differ cc
  first_full part (e, t) false (p, q) b z = t z ∙ zeros (load_under enums file part) e where
    zeros : (x : Load) → told ≡ answer_of file x → table_of x (length entry) ≡ replicate (length entry) 0
    zeros (refusal n i) f = refused-table n i (length entry)
    zeros (accepted rows readers shared) f = differ cc

  -- and a load of them then is a load of the words as they were
  pub again : (middle : List ℕ) → length middle ≡ length entry → (entry ≡ replicate (length entry) 0 → middle ≡ replicate (length entry) 0)
      → LoadsIn enums file middle exit (length middle) told → LoadsIn enums file entry exit (length entry) told
  again middle n m (e, t) = (rw n at e, λ z. rw n at (t (m z ∙ ap (λ k. replicate k 0) (sym n))))

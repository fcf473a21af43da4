-- The row of a value, and a value without children. Assumes nothing.
use Rattle.std.specs.Prelude.{◌≡◌, ℕ, suc, ◌+◌, ◌-◌, ◌^◌, ◌<◌, ◌≤◌, List, [], ◌∷◌, refl, Err}
use Rattle.std.proofs.Common.{◌∙◌, arith, add-one}
use Rattle.layout.specs.Rows.{Row, row}
use Rattle.answers.specs.Refusals.{refusal}
use Rattle.reading.specs.Answer.{Answer, refused, read}
use Rattle.reading.specs.Drafts.{Wants, Draft}
use Rattle.places.specs.Padding.{rows_padding}
use Rattle.table.specs.declared.Grid.{Grid}
use Rattle.table.specs.Word.{in_word, in_word_lem}
use Rattle.table.specs.Put.{put_row}
use Rattle.walked.specs.declared.Head.{Head}
use Rattle.walked.specs.declared.Spot.{Spot}
use Rattle.walked.specs.Written.{marks}
use Rattle.walked.specs.Contract.{Walk, Seen, Free, Ahead, Walked, reaching, put-leaf}

-- what is known of a value that begins at a spot, with its id and that id's padding
abbrev pub head_at : Spot → (detail padding : ℕ) → Head
head_at s detail padding = record { row = record { 0 = s.used }; first = s.at; parent = s.parent; detail = detail; padding = padding }

-- the row of a value that ends before `next`
abbrev pub value_row : Head → (kind children branch next : ℕ) → Row
value_row h kind children branch next = row kind (in_word h.first) (in_word (next - h.first)) children h.parent h.detail branch

-- a value that ends at or behind its first byte, where the numbers fit
pub value_row_lem : (h : Head) (kind children branch next : ℕ) → h.first ≤ next → next < 2 ^ 32
    → value_row h kind children branch next ≡ row kind h.first (next - h.first) children h.parent h.detail branch
value_row_lem h kind children branch next a f = rw (in_word_lem h.first (omega arith), in_word_lem (next - h.first) (omega arith))

-- what is answered once the bytes of a value without children, whose id has this padding, are read, or refused
abbrev pub leaf_answer : {A : Type 0} → (u padding : ℕ) → Answer A → Walk
leaf_answer u padding (refused n p) = Err (refusal n p)
leaf_answer u padding (read a next) = reaching (in_word (u + 1)) padding next

-- and what the words then hold: its row, if they have it
abbrev pub leaf_words : {A : Type 0} → Grid → List ℕ → Head → (kind mark : ℕ) → Answer A → List ℕ
leaf_words g w h kind mark (refused n p) = w
leaf_words g w h kind mark (read a next) = put_row g w h.row.0 (value_row h kind mark 1 next)

-- the row of a value without children that ends at `next`
abbrev pub leaf_row : Head → (kind : ℕ) → Wants → (next : ℕ) → Draft
leaf_row h kind wants next = record { row = row kind h.first (next - h.first) 0 h.parent h.detail 1; wants = wants }

-- its bytes were read, or refused
abbrev pub leaf_of : {A : Type 0} → Head → (kind : ℕ) → Wants → Answer A → Answer Seen
leaf_of h kind wants (refused n p) = refused n p
leaf_of h kind wants (read a next) = read (suc h.row.0, leaf_row h kind wants next ∷ []) next

-- the head's padding is that of its row
abbrev pub Pads : (file : List ℕ) → Head → (kind : ℕ) → Type 0
Pads file h kind = (next : ℕ) → in_word (rows_padding file (row kind h.first (next - h.first) 0 h.parent h.detail 1 ∷ [])) ≡ h.padding

-- whether something was read, and where it ended
unfoldable pub mute : {A : Type 0} → Answer A → Answer (Unit {0})
mute (refused n p) = refused n p
mute (read a e) = read tt e

-- where the words have the row and the numbers fit
pub leaf_walked : {A : Type 0} (g : Grid) (file w : List ℕ) (h : Head) (kind : ℕ) (wants : Wants) (x : Answer A) → Free g w h.row.0 → Ahead h.first x → Pads file h kind
    → Walked g file w (leaf_words g w h kind (marks wants 0) x) h.row.0 (leaf_of h kind wants x) (leaf_answer h.row.0 h.padding x)
leaf_walked g file w h kind wants (refused n p) f a s = record { answers = refl; writes = refl }
leaf_walked g file w h kind wants (read v next) f a s =
    let u : in_word (h.row.0 + 1) ≡ suc h.row.0 = in_word_lem (h.row.0 + 1) f.few ∙ add-one h.row.0 in
    record { answers = rw (u, s next); writes = rw (value_row_lem h kind (marks wants 0) 1 next a.0 a.1) (put-leaf g w h.row.0 (leaf_row h kind wants next) f) }

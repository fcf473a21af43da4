-- The first objects of a list, taken one after the other. Assumes nothing.
use Rattle.std.specs.Prelude.{◌≡◌, Some, List, ℕ, zero, suc, ◌+◌, ◌<◌, get_or}
use Rattle.table.specs.declared.Grid.{Grid}
use Rattle.table.specs.Word.{in_word}
use Rattle.table.specs.Put.{put_row}
use Rattle.walked.specs.Leaf.{value_row}
use Rattle.leaves.specs.Plain.{head_of}
use Rattle.objects.specs.Beginnings.{position_at}
use Rattle.first_values.specs.declared.Seen.{Seen}
use Rattle.first_values.specs.Looks.{Looked}

module _ (g : Grid) (file codes targets : List ℕ) (count declared used : ℕ) (w₀ : List ℕ) (at : ℕ) where
  -- the object behind k others: what was seen of it, its row, and the padding with its own
  pub record Next (Before : (next sum : ℕ) (w : List ℕ) → Type 0) (k end sum : ℕ) (w : List ℕ) : Type 0 where
    pub first : ℕ
    pub had : ℕ
    pub old : List ℕ
    pub seen : Seen
    pub before : Before first had old
    pub free : used + k < g.room
    pub ends : seen.end ≡ end
    pub sums : sum ≡ in_word (had + seen.padding)
    pub looked : Looked file codes count (get_or targets (position_at file first) 0) declared first (Some seen)
    pub puts : w ≡ put_row g old (used + k) (value_row (head_of (used + k) first used seen.id seen.padding) seen.kind 0 1 end)

  -- k objects were taken: where the next one begins, the padding of their type ids, and the words
  unfoldable pub Took : (k next sum : ℕ) (w : List ℕ) → Type 0
  Took zero next sum w = (next ≡ at) × (sum ≡ 0) × (w ≡ w₀)
  Took (suc k) next sum w = Next (λ n s v. Took k n s v) k next sum w

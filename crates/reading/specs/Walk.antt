-- What reading values answers: the first fault in file order, or where the values end and their rows, by the depth left (01, "Values and kinds" and "Refusals"). Assumes nothing.
use Rattle.std.specs.Prelude.{◌≡◌, List, [], ◌∷◌, ◌++◌, ℕ, zero, suc, ◌+◌, ◌-◌, ltb, leb}
use Rattle.std.proofs.Common.{append-nil}
use Rattle.layout.specs.Text.{Character}
use Rattle.layout.specs.Target.{Target, kind_of}
use Rattle.layout.specs.Tree.{Trees, none, tree, count, told_of}
use Rattle.layout.specs.Slot.{leaf_kind, Slot, raw, object, reference, leaf, Plan, stop, put}
use Rattle.layout.specs.Rows.{row}
use Rattle.reading.specs.Answer.{Answer, refused, read, bind, check}
use Rattle.reading.specs.Seven.{seven_at}
use Rattle.reading.specs.Utf8.{char_at, char_reads}
use Rattle.reading.specs.Rules.{Found, missing, found, reader, serves}
use Rattle.reading.specs.Font.{font_ok}
use Rattle.reading.specs.Heads.{head_at, leaf_at}
use Rattle.reading.specs.Drafts.{Draft, drafted, wanting}

-- what reading values gives: how many rows are used, the new rows, and the trees, which no program holds
abbrev pub Taken : Type 0
Taken = ℕ × List Draft × Trees

abbrev pub Outcome : Type 0
Outcome = Answer Taken

abbrev pub done : (next used : ℕ) → List Draft → Trees → Outcome
done next used rows trees = read (used, rows, trees) next

-- one value's tree before the trees of the values after it
unfoldable pub before : Trees → Trees → Trees
before none rest = rest
before (tree k i own cs x) rest = tree k i own cs rest

-- the character that bytes are
unfoldable pub value_or : Answer ℕ → ℕ
value_or (refused n p) = 0
value_or (read c e) = c

unfoldable pub point : List ℕ → ℕ
point own = value_or (char_at own 0)

pub point_is : (c : ℕ) (own : List ℕ) → Character c own → point own ≡ c
unfolding point value_or
point_is c own w = rw ((char_reads own).complete c own [] 0 w (rw append-nil))

-- values one after the other, as a plan says
unfoldable pub sequence : (Slot → ℕ → ℕ → Outcome) → Plan → (at used : ℕ) → Outcome
sequence step stop at used = done at used [] none
sequence step (put x go) at used =
    bind (step x at used) (λ a n. bind (sequence step (go (told_of a.2)) n a.0) (λ b n'. done n' b.0 (a.1 ++ b.1) (before a.2 b.2)))

-- under a reader list, a shared count and a number of rows
module _ (file : List ℕ) (readers : List Target) (shared room : ℕ) where
  -- a raw value at `at`, whose row begins at `first`; 22 comes after all fields, at the font's first raw byte
  unfoldable pub raw_at : (Plan → ℕ → ℕ → Outcome) → Target → (first at used parent id : ℕ) → Outcome
  raw_at below t first at used parent id =
      bind (head_at file t at)
      (λ h next. bind (below h.1 next (suc used))
      (λ a e. check (font_ok point t a.2) 22 at
      (done e a.0 (drafted (row (kind_of t) first (e - first) (count a.2) parent id (a.0 - used)) ∷ a.1) (tree (kind_of t) id h.0 a.2 none))))

  -- 13 before 14
  unfoldable pub by_reader : Found → (Plan → ℕ → ℕ → Outcome) → Target → (id at next used parent : ℕ) → Outcome
  by_reader missing below t id at next used parent = refused 13 at
  by_reader (found u) below t id at next used parent = check (serves t u) 14 at (raw_at below u at next used parent id)

  unfoldable pub object_at : (Plan → ℕ → ℕ → Outcome) → Target → (id at next used parent : ℕ) → Outcome
  object_at below t zero at next used parent = done next (suc used) (drafted (row 0 at (next - at) 0 parent 0 1) ∷ []) (tree 0 0 [] none none)
  object_at below t (suc i) at next used parent = by_reader (reader readers (suc i)) below t (suc i) at next used parent

  unfoldable pub value_at : (Plan → ℕ → ℕ → Outcome) → Slot → (at used parent : ℕ) → Outcome
  value_at below (raw t) at used parent = raw_at below t at at used parent 0
  value_at below (object t) at used parent = bind (seven_at file at) (λ id next. object_at below t id at next used parent)
  value_at below (reference wanted) at used parent =
      bind (seven_at file at)
      (λ id next. check (leb id shared) 16 at (done next (suc used) (wanting wanted (row 36 at (next - at) 0 parent id 1) ∷ []) (tree 36 id [] none none)))
  value_at below (leaf x) at used parent =
      bind (leaf_at file x at) (λ own next. done next (suc used) (drafted (row (leaf_kind x) at (next - at) 0 parent 0 1) ∷ []) (tree (leaf_kind x) 0 own none none))

  -- 01: "At a value's start: 18, 19, then its bytes"; `depth` is the depth left
  unfoldable pub walk : (depth : ℕ) → Slot → (at used parent : ℕ) → Outcome
  walk zero x at used parent = refused 18 at
  walk (suc d) x at used parent =
      check (ltb used room) 19 at
      (value_at (λ plan a u. sequence (λ y b v. walk d y b v (suc used)) plan a u) x at used parent)

-- What rewriting answers in code, and what its functions promise of a file that was loaded. Assumes nothing.
use Rattle.std.specs.Prelude.{◌≡◌, ℕ, ◌+◌, ◌-◌, ◌<◌, ◌≤◌, take, Result, Ok, Err}
use Rattle.answers.specs.declared.Refusal.{Refusal}
use Rattle.answers.specs.Refusals.{refusal as broken}
use Rattle.std.proofs.Math.Path.{refl, sym, ap}
use Rattle.std.proofs.Common.{◌∙◌, length-append}
use Rattle.std.proofs.Math.Bool.{true, false}
use mathlib.Core.List.{List, [], ◌++◌, append_assoc}
use native.Mathlib.Omega.{arith}
use Rattle.std.proofs.Math.Dec.{leb}
use borrow.Author.Tests.{le-leb, lt-leb}
use Rattle.std.proofs.Math.ListN.{length, drop}
use Rattle.layout.specs.File.{FileTree, header}
use Rattle.layout.specs.Shortest.{short_body, short_file}
use Rattle.shortest.specs.File.{length_file, length-header}
use Rattle.shortest.specs.Rewrites.{Rewrites}
use Rattle.places.specs.Places.{lists_places}
use Rattle.fill.specs.Fill.{cleared}
use Rattle.reading.specs.Output.{Rewritten, refusal, written, fitted, output_of}
use Rattle.shortest.specs.Rewrite.{words_of}
use Rattle.rewrite.specs.Table.{table_places, places_of}
use Rattle.rewrite.specs.Pending.{Pending, LengthPut}

-- what rewriting a file answers in code: the length of the rewritten file, or a refusal
abbrev pub Rewriting : Type 0
Rewriting = Result ℕ Refusal

-- 01: "its length is the answer"
abbrev pub answer_of : Rewritten → Rewriting
answer_of (refusal number place) = Err (broken number place)
answer_of (written bytes) = Ok (length bytes)

-- a file of this padding whose rows stand in the table: its tree, and that its numbers made shortest give the tree's shortest bytes
pub record Ready (file table : List ℕ) (readers rows padding : ℕ) : Type 0 where
  pub tree : FileTree
  pub small : length file ≤ 16777216
  pub pads : length file ≡ length (short_file tree) + padding
  pub headed : take 10 file ≡ header tree.platform tree.flags (length file)
  pub rewrites : Rewrites file 0 (places_of file table readers rows) (take 10 file ++ short_body tree)

-- what is answered, and what output and words then hold
pub record Fits (file entry exit out end : List ℕ) (readers rows padding : ℕ) (r : Rewriting) : Type 0 where
  pub holds : (w : Ready file entry readers rows padding)
      → (r ≡ answer_of (fitted (short_file w.tree) (length out)))
      × (end ≡ output_of (fitted (short_file w.tree) (length out)) out)
      × (exit ≡ words_of (fitted (short_file w.tree) (length out)) entry)

-- ---- Laws of writing a whole file

module _ (file table : List ℕ) (readers rows padding : ℕ) (w : Ready file table readers rows padding) where
  -- what the file becomes before the header's length is set
  abbrev pub copy : List ℕ
  copy = take 10 file ++ short_body w.tree

  pub copy-length : length copy ≡ length (short_file w.tree)
  copy-length =
      omega (arith, length_file w.tree, length-append (take 10 file) (short_body w.tree), ap length w.headed ∙ length-header w.tree.platform w.tree.flags (length file))

  -- at the start nothing is written
  pub start : (base : List ℕ) → length (short_file w.tree) ≤ length base → Pending file base base 0 0 (lists_places file readers 10 ++ table_places file table rows 0) copy
  unfolding places_of
  start base h = record { done = []; left = copy; long = refl; stands = refl; rewrites = w.rewrites; makes = refl; room = omega (arith, copy-length) }

  -- at the end the header's length is set
  pub finish : (base mid exit : List ℕ) (needed : ℕ) → needed ≡ length (short_file w.tree) → mid ≡ copy ++ drop (length copy) base → LengthPut needed mid exit → exit ≡ short_file w.tree ++ drop needed base
  unfolding LengthPut short_file
  finish base mid exit needed n m l =
      let body = short_body w.tree in
      let old = header w.tree.platform w.tree.flags (length file) in
      let behind = drop (length copy) base in
      let e : mid ≡ old ++ (body ++ behind) = m ∙ ap (λ (x : List ℕ). (x ++ body) ++ behind) w.headed ∙ append_assoc old body behind in
      let k : needed ≡ 10 + length body = n ∙ length_file w.tree in
      let c : length copy ≡ needed = copy-length ∙ sym n in
      l w.tree.platform w.tree.flags (length file) (body ++ behind) e
      ∙ rw (c, k) (sym (append_assoc (header w.tree.platform w.tree.flags (10 + length body)) body (drop (10 + length body) base)))

  module _ (out : List ℕ) where
    -- the bytes needed are those of the file less the padding
    long : length file - padding ≡ length (short_file w.tree)
    long = omega (arith, w.pads)

    -- there is no room: nothing is written, and the words are cleared
    pub too_small : {exit : List ℕ} → length out < length file - padding → exit ≡ cleared table 0
        → (Err (broken 21 (length file - padding)) ≡ answer_of (fitted (short_file w.tree) (length out)))
        × (out ≡ output_of (fitted (short_file w.tree) (length out)) out)
        × (exit ≡ words_of (fitted (short_file w.tree) (length out)) table)
    unfolding fitted output_of words_of cleared
    too_small h e =
        let t : leb (length (short_file w.tree)) (length out) ≡ false = lt-leb (length (short_file w.tree)) (length out) (omega (arith, long)) in
        let z : length table - 0 ≡ length table = omega arith in
        rw (t, long) (refl, refl, e ∙ rw z)

    -- there is room
    pub fits_in : {end : List ℕ} → length file - padding ≤ length out
        → ((v : Ready file table readers rows padding) → length file - padding ≡ length (short_file v.tree) → length file - padding ≤ length out → end ≡ short_file v.tree ++ drop (length file - padding) out)
        → (Ok (length file - padding) ≡ answer_of (fitted (short_file w.tree) (length out)))
        × (end ≡ output_of (fitted (short_file w.tree) (length out)) out)
        × (table ≡ words_of (fitted (short_file w.tree) (length out)) table)
    unfolding fitted output_of words_of
    fits_in h e =
        let t : leb (length (short_file w.tree)) (length out) ≡ true = le-leb (length (short_file w.tree)) (length out) (omega (arith, long)) in
        let x = e w long h in
        rw t (ap Ok long, rw long at x, refl)

use borrow.Author.Rules.{rules}
use mathlib.Core.Path.{◌≡◌, sym, ◌∙◌}
use native.Mathlib.Omega.{arith}
use lib.ListN.{length, take, length-take}
use Rattle.load.specs.Under.{load_under}
use Rattle.load_part.specs.Part.{first_words, part_left}
use Rattle.load_part.proofs.load_within.Goals as goal

pub slice_bounds-load-end-2 : goal.slice_bounds-load-end-2
slice_bounds-load-end-2 c = omega (arith, length-take c.first_words-part.result c.args.words.now, c.first_words-part.ensures.1)

pub returns : goal.returns
returns c =
    let a = c.args in
    let n : length (take c.first_words-part.result a.words.now) ≡ c.first_words-part.result = omega (arith, length-take c.first_words-part.result a.words.now, c.first_words-part.ensures.1) in
    let e : length (take c.first_words-part.result a.words.now) ≡ first_words a.rows (length a.words.now) = n ∙ c.first_words-part.ensures.0 in
    (rw e at c.load.ensures.value, λ z. rw (sym c.first_words-part.ensures.0) (part_left (load_under a.enums.now a.file.now c.first_words-part.result) a.words.now _ c.first_words-part.result c.first_words-part.ensures.1 (rw n at c.load.ensures.words_after) (search rules) z))

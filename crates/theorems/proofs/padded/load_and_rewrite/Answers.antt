use native.Mathlib.Omega.{arith}
use Rattle.reading.specs.Reads.{small_by_index}
use Rattle.theorems.specs.Fitted.{padding_is}
use Rattle.theorems.specs.Laws.{load_exact, rewrite_exact}
use Rattle.theorems.proofs.Padding.{total, needed, none, refused}
use Rattle.enums.specs.Lists.{Bytes}
use Rattle.theorems.proofs.padded.load_and_rewrite.Goals as goal

pub returns : goal.returns
returns c =
    let a = c.args in
    let file = a.file.now in
    let enums = a.enums.now in
    let bytes : Bytes enums = λ i h. omega (arith, c.type_inv.enums i) in
    let small = small_by_index file (λ i h. omega (arith, c.type_inv.file i)) in
    let n = c.words-1.given in
    let l = rw (← n) at c.load_in-loaded.ensures.value in
    let k = rw (← n) at c.load_in-loaded.ensures.words_after in
    let x = rewrite_exact enums file _ a.out.now bytes small c.rewrite-rewritten.ensures.value c.rewrite-rewritten.ensures.out_after c.rewrite-rewritten.ensures.words_after in
    rw (← n) (record {
      between = _;
      loads = load_exact enums file _ a.columns bytes small l k;
      rewrites = x;
      total = total enums file _ bytes small l x c.rewrite-rewritten.ensures.value;
      counted = λ f. padding_is f;
      needed = needed enums file _ bytes small l x c.rewrite-rewritten.ensures.value;
      none = none enums file _ bytes small l x c.rewrite-rewritten.ensures.value;
      refused = refused enums file _ bytes small l x c.rewrite-rewritten.ensures.value;
    })

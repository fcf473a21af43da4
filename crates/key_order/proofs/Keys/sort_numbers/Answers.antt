use Rattle.std.proofs.Common.{rules, of_calls}
use Rattle.std.specs.Ordering.{is_lt}
use Rattle.std.proofs.lemmas.Fn.{always_returns_same}
use Rattle.key_order.specs.Texts.{key_text, rank_of}
use Rattle.key_order.proofs.Sorted.{ranks, sorted_certificate}
use Rattle.key_order.proofs.Keys.sort_numbers.Goals as goal

pub returns : goal.returns
returns c =
    let s = c.args.self in
    let text = key_text s.file.now s.table.grid s.table.words.now s.rows.now in
    rw c.count_up.ensures.0 at (sorted_certificate text c.count_up.new.order _ c.count_up.ensures.1 c.sort_unstable_by.ensures.permutation
    (c.sort_unstable_by.ensures.sorted (λ a b. is_lt (rank_of text a b)) (ranks text) (always_returns_same _ _ _ (λ a r f k. search (rules, of_calls)))))

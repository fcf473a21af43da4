use Rattle.std.proofs.Common.{rules, of_calls}
use Rattle.std.specs.Ordering.{is_lt}
use Rattle.std.proofs.lemmas.Fn.{always_returns_same}
use Rattle.key_order.specs.Texts.{key_text, rank_of}
use Rattle.key_order.proofs.Tested.{rises_by_rank}
use Rattle.key_order.proofs.Keys.rising.Goals as goal

pub returns : goal.returns
returns c =
    let s = c.args.self in
    let text = key_text s.file.now s.table.grid s.table.words.now s.rows.now in
    rises_by_rank s.file.now s.table.grid s.table.words.now s.rows.now c.args.order.now c.is_sorted_by.result (c.is_sorted_by.ensures.cases (λ a b. is_lt (rank_of text a b)) (always_returns_same _ _ _ (λ a r f k. search (rules, of_calls))))

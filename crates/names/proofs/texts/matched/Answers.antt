-- `names::texts::matched` meets its contract. Assumes nothing.
use Rattle.std.proofs.Common.{◌≡◌, ◌-◌, take, length, ◌∙◌, rules, tests, drop, eqb, ℕ, Bool}
use Rattle.std.specs.List.{zip}
use Rattle.std.proofs.lemmas.Iterator.{YieldsList-from_slice, YieldsList-from_zip}
use Rattle.std.proofs.lemmas.Iterator.Consumers.{YieldsList-at, count_from_yields_List}
use Rattle.std.proofs.lemmas.Iterator.Search.{YieldsList-from_take_while}
use Rattle.std.proofs.lemmas.List.Folds.{length-prefix_len}
use Rattle.names.proofs.Laws.{rest, common_is_prefix}
use Rattle.names.proofs.texts.matched.Goals as goal

pub returns : goal.returns
returns c =
    let t = c.args.text.now in
    let r = drop c.args.at c.args.s.now in
    let pairs = zip t r in
    let same : ℕ × ℕ → Bool = λ p. eqb p.0 p.1 in
    let second : c.zip.result.b.rest.now ≡ take (length c.args.s.now - c.args.at) r = c.zip.ensures.second.0 in
    let road = YieldsList-from_zip (YieldsList-at c.zip.ensures.first (YieldsList-from_slice t c.iter.ensures.rest)) (YieldsList-from_slice r (second ∙ rest c.args.s.now c.args.at)) in
    count_from_yields_List c.take_while.result _ c.count.ensures.ran (YieldsList-from_take_while _ same (YieldsList-at c.take_while.ensures.source road) c.take_while.ensures.closure c.take_while.ensures.done (λ x b q k. search (rules, tests)))
    ∙ length-prefix_len same pairs ∙ common_is_prefix t r

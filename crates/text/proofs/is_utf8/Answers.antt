use Rattle.text.proofs.Laws.{passed_on, ran_all}
use Rattle.text.proofs.is_utf8.Goals as goal

pub returns : goal.returns
returns c =
    let b = c.past_blocks-b in
    ran_all _ _ _ (passed_on _ b.result b.ensures c.ascii_blocks-a.result c.ascii_blocks-a.ensures) c.chars.ensures

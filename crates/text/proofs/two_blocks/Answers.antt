-- `text::two_blocks` meets its contract: no byte stands between the two blocks. Assumes nothing.
use Rattle.laws.specs.Small.{both}
use Rattle.text.proofs.Laws.{two_ascii}
use Rattle.text.proofs.two_blocks.Goals as goal

pub returns : goal.returns
returns c e =
    let a = c.args in
    let t = both c.ascii_block.result c.ascii_block-2.result e in
    two_ascii a.s.now a.n c.requires.0 c.requires.1 (c.ascii_block.ensures t.0) (c.ascii_block-2.ensures t.1)

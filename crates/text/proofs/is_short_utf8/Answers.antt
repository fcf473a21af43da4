-- `text::is_short_utf8` meets its contract: before each turn what is left from `i` on decides. Assumes nothing.
use mathlib.Core.Path.{sym}
use native.Mathlib.Omega.{arith}
use lib.ListN.{length}
use Rattle.text.proofs.Laws.{passed_on, passed_all, ran_all}
use Rattle.text.proofs.is_short_utf8.Goals as goal

pub returns-then-short_ascii : goal.returns-then-short_ascii
returns-then-short_ascii c =
    let s = c.args.s.now in
    sym (passed_all s (length s) (c.short_ascii.ensures c.if-short_ascii.true) (omega arith))

pub ascii_end-requires : goal.ascii_end-requires
ascii_end-requires c = c.ascii_blocks-a.ensures.inside

pub returns-then-ascii_end : goal.returns-then-ascii_end
returns-then-ascii_end c =
    let s = c.args.s.now in
    sym (passed_all s (length s) (passed_on s c.ascii_blocks-a.result c.ascii_blocks-a.ensures (length s) (c.ascii_end.ensures c.if-ascii_end.true)) (omega arith))

pub chars-requires : goal.chars-requires
chars-requires c = c.ascii_blocks-a.ensures.inside

pub returns : goal.returns
returns c = ran_all _ _ _ c.ascii_blocks-a.ensures c.chars.ensures

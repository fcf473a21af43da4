use Rattle.std.proofs.Common.{length}
use Rattle.key_order.proofs.Tested.{certificate}
use Rattle.key_order.proofs.Keys.tested.Goals as goal

pub returns-then-rising-clause-certificate : goal.returns-then-rising-clause-certificate
returns-then-rising-clause-certificate c =
    let s = c.args.self in
    λ e. certificate s.file.now s.table.grid s.table.words.now s.rows.now (length c.args.order.now) c.args.order.now c.covered.new.of (c.covered.ensures.1 e) (c.rising.ensures c.if-rising.true)

use Rattle.key_order.specs.Behind.{no_bytes, bytes-rest}
use Rattle.key_order.proofs.texts.bytes_from.Goals as goal

pub returns-then-file-start : goal.returns-then-file-start
returns-then-file-start c = let a = c.args in no_bytes a.file.now a.start a.n c.if-file-start.true

pub returns-then-left-n : goal.returns-then-left-n
returns-then-left-n c = let a = c.args in bytes-rest a.file.now a.start a.n c.if-left-n.true

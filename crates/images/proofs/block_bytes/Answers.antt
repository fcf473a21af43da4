-- `images::block_bytes` meets its contract: three formats have blocks. Assumes nothing.
use Rattle.layout.specs.Image.{block_bytes}
use Rattle.images.proofs.Sizes.{no_block}
use Rattle.images.proofs.block_bytes.Goals as goal

pub returns-in-4 : goal.returns-in-4
unfolding block_bytes
returns-in-4 c = rw c.in-4.is

pub returns-in-5 : goal.returns-in-5
unfolding block_bytes
returns-in-5 c = rw c.in-5.is

pub returns-in-6 : goal.returns-in-6
unfolding block_bytes
returns-in-6 c = rw c.in-6.is

pub returns-in_default : goal.returns-in_default
returns-in_default c = no_block _ c.in_default.in_default-own.rest.0.0.1 c.in_default.in_default-own.rest.0.1 c.in_default.in_default-own.rest.1

use Rattle.driver.specs.Rules.{too_short, its_platform, another_platform}
use Rattle.driver.proofs.platform.Goals as goal

pub returns-then-file-le3 : goal.returns-then-file-le3
returns-then-file-le3 c = too_short c.args.file.now c.if-file-le3.true

pub returns-then-file-eq119 : goal.returns-then-file-eq119
returns-then-file-eq119 c = its_platform c.args.file.now c.if-file-eq119.true

pub returns : goal.returns
returns c = another_platform c.args.file.now c.if-file-eq119.false

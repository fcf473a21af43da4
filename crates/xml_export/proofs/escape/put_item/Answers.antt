use Rattle.std.proofs.Common.{arith, refl, take, drop}
use Rattle.layout.specs.Text.{ascii}
use Rattle.xml_layout.specs.Xml.{item_start, item_end}
use Rattle.xml_escape.specs.Sizes.{item-long}
use Rattle.xml_export.proofs.Escapes.{item-put}
use Rattle.xml_export.proofs.escape.put_item.Goals as goal

pub put-requires : goal.put-requires
put-requires c =
    let a = c.args in
    omega (arith, item-long (take a.n (drop a.first a.file.now)), c.requires.1)

pub put_part-end-requires : goal.put_part-end-requires
put_part-end-requires c =
    let a = c.args in
    (c.requires.0, omega (arith, item-long (take a.n (drop a.first a.file.now)), c.requires.1, c.put.auto.out))

pub put-requires-2 : goal.put-requires-2
put-requires-2 c =
    let a = c.args in
    omega (arith, item-long (take a.n (drop a.first a.file.now)), c.requires.1, c.put_part-end.ensures.ends, c.put.auto.out, c.put_part-end.auto.out)

pub returns : goal.returns
unfolding item_start item_end ascii
returns c =
    let a = c.args in
    item-put (take a.n (drop a.first a.file.now)) c.put.ensures c.put_part-end.ensures c.put-2.ensures refl

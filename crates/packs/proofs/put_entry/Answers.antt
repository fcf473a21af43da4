use Rattle.packs.proofs.Turns.{four}
use Rattle.packs.proofs.put_entry.Goals as goal

pub returns : goal.returns
returns c =
    let f = c.args.file in
    four c.args.table.now c.args.at f.start f.size f.first f.count c.requires

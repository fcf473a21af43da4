use Rattle.std.proofs.Common.{◌-◌, arith}
use Rattle.packs.proofs.Ascii.{ascii-text}
use Rattle.packs.proofs.is_path.Goals as goal

pub returns-then-is_ascii : goal.returns-then-is_ascii
returns-then-is_ascii c =
    let a = c.args in
    λ e.
    let p = c.is_ascii.ensures c.if-is_ascii.true in
    record {
      some_bytes = omega (arith, p.0);
      few = omega (arith, p.1);
      text = ascii-text a.pack.now (a.behind - a.start) a.start (omega (arith, c.requires)) p.2;
    }

use Rattle.std.proofs.Common.{sym, arith}
use Rattle.std.proofs.lemmas.Result.{err_from_is_err_and}
use Rattle.pack_layout.specs.Pack.{mark_of}
use Rattle.reading.specs.Reads.{small_by_index}
use Rattle.packs.specs.Walk.{count-refused, count_many, count_few}
use Rattle.marks.proofs.Answers.{walk_refused}
use Rattle.marks.proofs.count.Goals as goal

pub returns-in_err-files : goal.returns-in_err-files
returns-in_err-files c =
    let p = err_from_is_err_and c.from_residual.result c.from_residual.ensures.1 in
    rw (p.1, p.2) (walk_refused _ (count-refused (mark_of c.args.marked) c.args.pack.now 4096 (sym c.in_err-files.ensures)))

pub returns-then-files-gt4096 : goal.returns-then-files-gt4096
returns-then-files-gt4096 c =
    rw c.at.ensures (walk_refused _ (count_many (mark_of c.args.marked) c.args.pack.now 4096 (sym c.in_ok-files.ensures) c.if-files-gt4096.true))

pub returns : goal.returns
returns c =
    let a = c.args in
    let small = small_by_index a.pack.now (λ i h. omega (arith, c.type_inv.pack i)) in
    rw (count_few (mark_of a.marked) a.pack.now 4096 small (sym c.in_ok-files.ensures) c.if-files-gt4096.false) c.walk.ensures

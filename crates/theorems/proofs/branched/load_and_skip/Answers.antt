use Rattle.theorems.proofs.Branches.{next_is}
use Rattle.theorems.proofs.branched.load_and_skip.Goals as goal

pub returns : goal.returns
returns c =
    let x = c.load_exact-loading.ensures.loads in
    let n = c.words-1.given in
    let q = rw (c.by_rows.ensures.0, c.by_rows.ensures.1) at c.next-next.ensures in
    record { loads = x; next = λ used readers shared padding e h. next_is x e _ n q h }

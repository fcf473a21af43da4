use mathlib.Core.Path.{sym, ap, ◌∙◌}
use Rattle.std.specs.Prelude.{Err}
use Rattle.std.proofs.lemmas.Result.{err_from_is_err_and}
use native.Mathlib.Omega.{arith}
use lib.ListN.{length}
use Rattle.reading.specs.Reads.{small_by_index}
use Rattle.rewrite.specs.Loaded.{load_refused, loaded, fitted_is}
use Rattle.rewrite.proofs.rewrite.Goals as goal

pub fit-requires : goal.fit-requires
fit-requires c =
    let args = c.args in
    let s = args.file.now in
    let n = args.enums.now in
    let g = loaded n s (length args.words.now) (small_by_index s (λ i h. omega (arith, c.type_inv.file i))) (sym c.in_ok-loaded.was ∙ c.load.ensures.value) in
    rw c.load.ensures.words_after g.ready

pub returns-in_err-loaded : goal.returns-in_err-loaded
returns-in_err-loaded c =
    let args = c.args in
    let r = load_refused args.enums.now args.file.now (length args.words.now) args.out.now (sym c.in_err-loaded.was ∙ c.load.ensures.value) in
    let p = err_from_is_err_and c.from_residual.result c.from_residual.ensures.1 in
    record { value = p.1 ∙ ap Err p.2 ∙ r.0; out_after = r.1; words_after = c.load.ensures.words_after ∙ r.2 }

pub returns : goal.returns
returns c =
    let args = c.args in
    let s = args.file.now in
    let n = args.enums.now in
    let g = loaded n s (length args.words.now) (small_by_index s (λ i h. omega (arith, c.type_inv.file i))) (sym c.in_ok-loaded.was ∙ c.load.ensures.value) in
    let r = fitted_is n s (length args.words.now) g args.out.now _ _ c.load.ensures.words_after c.fit.ensures in
    record { value = r.0; out_after = r.1; words_after = r.2 }

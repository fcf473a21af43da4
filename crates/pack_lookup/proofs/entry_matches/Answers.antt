-- `pack_lookup::entry_matches` meets its contract: an entry that fails one test matches no path, in whatever order they stand. Assumes nothing.
use mathlib.Core.Path.{sym, ◌∙◌}
use native.Mathlib.Omega.{arith}
use Rattle.pack_lookup.proofs.Laws.{other_size, no_path, path_past, path_other, data_past, path_inside}
use Rattle.pack_lookup.proofs.entry_matches.Goals as goal

pub returns-then-size-path : goal.returns-then-size-path
returns-then-size-path c = other_size _ _ _ _ _ _ c.if-size-path.true

pub returns-then-size-eq0 : goal.returns-then-size-eq0
returns-then-size-eq0 c = no_path _ _ _ _ _ _ c.if-size-eq0.true

pub returns-then-pack-size : goal.returns-then-pack-size
returns-then-pack-size c = path_past _ _ _ _ _ _ (omega arith)

pub returns-then-pack-size-2 : goal.returns-then-pack-size-2
returns-then-pack-size-2 c = path_past _ _ _ _ _ _ (omega arith)

pub returns-then-not-same_path : goal.returns-then-not-same_path
returns-then-not-same_path c = path_other _ _ _ _ _ _ (sym c.same_path.ensures ∙ c.if-not-same_path.true)

pub returns-then-pack-count : goal.returns-then-pack-count
returns-then-pack-count c = data_past _ _ _ _ _ _ (omega arith)

pub returns-then-pack-count-2 : goal.returns-then-pack-count-2
returns-then-pack-count-2 c = data_past _ _ _ _ _ _ (omega arith)

pub returns : goal.returns
returns c =
    sym c.if-not-same_path.false ∙ c.same_path.ensures
    ∙ path_inside _ _ _ _ _ _ (omega (arith, c.if-size-eq0.false)) (omega arith) (omega arith)

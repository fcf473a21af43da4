-- `salvage::is_clear` meets its contract: where nothing is found, the bytes so far are not FD. Assumes nothing.
use Rattle.std.specs.Prelude.{◌≡◌, ◌≢◌, false, ℕ, ◌+◌, ◌<◌, slice_index_or}
use Rattle.salvage.proofs.is_clear.Given as goal

abbrev pub invariant-loop-i : goal.invariant-loop-i
invariant-loop-i l = l.found ≡ false → (k : ℕ) → k < l.i → slice_index_or l.pack (l.from + k) 0 ≢ 0xFD

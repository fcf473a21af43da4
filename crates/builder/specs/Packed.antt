-- The one number that an asset builder is told (01, "Looking up": "refusal (or 0) times 2 to the 32, plus place (or row count)"). Assumes nothing.
use Rattle.std.specs.Prelude.{ℕ, ◌+◌, ◌*◌, ◌%◌, length}
use Rattle.reading.specs.File.{Load, refusal, accepted}
use Rattle.reading.specs.Output.{Rewritten, written}
use Rattle.reading.specs.Output as rewrite

-- a refusal; every place but 32's is at most 16,777,216, so it fits the 32 bits below the number (Places); the place of 32 is told by its remainder
unfoldable pub code : (number place : ℕ) → ℕ
code number place = number * 4294967296 + place % 4294967296

unfoldable pub packed : Load → ℕ
packed (refusal number place) = code number place
packed (accepted rows readers shared) = length rows

-- of a rewrite: a refusal in the same way, or the length of the rewritten file
unfoldable pub rewrite_packed : Rewritten → ℕ
rewrite_packed (rewrite.refusal number place) = code number place
rewrite_packed (written bytes) = length bytes

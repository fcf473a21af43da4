-- The size of one level of an image (01, "Texture2D"). Assumes nothing.
use Rattle.std.specs.Prelude.{Bool, true, false, ℕ, suc, ◌≤◌, leb, get_or}
use Rattle.layout.specs.Image.{levels}

-- 01: "format 0 to 18", "width and height 1 to 4,096", and so at most 13 levels
abbrev pub Lawful : (format width height level : ℕ) → Type 0
Lawful format width height level = (format ≤ 18) × (1 ≤ width) × (width ≤ 4096) × (1 ≤ height) × (height ≤ 4096) × (level ≤ 12)

-- a number where the test holds, else 0
unfoldable pub when : Bool → ℕ → ℕ
when true n = n
when false n = 0

-- the size of a lawful image's level, and 0 for any other
unfoldable pub level_size_of : (format width height level : ℕ) → ℕ
level_size_of format width height level =
    when (leb format 18)
    (when (leb 1 width)
    (when (leb width 4096)
    (when (leb 1 height)
    (when (leb height 4096)
    (when (leb level 12) (get_or (levels format width height (suc level)) level 0))))))

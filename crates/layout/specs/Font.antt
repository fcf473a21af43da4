-- The font rule (01: "No object in it is null, the four lists have equal counts, and characters rise strictly"). Assumes nothing.
use Rattle.std.specs.Prelude.{◌≡◌, List, ℕ, ◌<◌}
use Rattle.layout.specs.Text.{Character}
use Rattle.layout.specs.Tree.{Trees, none, tree, count, kind_at, children_at}

-- the first of some characters is above the one with these bytes
unfoldable pub Above : List ℕ → Trees → Type 0
Above before none = Unit {0}
Above before (tree k i own cs rest) = (b : ℕ) × (c : ℕ) × Character b before × Character c own × (b < c)

-- each character is above the one before it
unfoldable pub Rising : Trees → Type 0
Rising none = Unit {0}
Rising (tree k i own cs rest) = Above own rest × Rising rest

-- of a font's eight children, numbers 0 to 7: the objects are 0 to 3 and 6, and the lists 1, 2, 3 and 6, of which 3 has the characters. A null has kind 0.
pub record FontRule (cs : Trees) : Type 0 where
  pub texture : kind_at 0 cs ≡ 0 → ⊥
  pub glyphs : kind_at 1 cs ≡ 0 → ⊥
  pub cropping : kind_at 2 cs ≡ 0 → ⊥
  pub characters : kind_at 3 cs ≡ 0 → ⊥
  pub kerning : kind_at 6 cs ≡ 0 → ⊥
  pub glyph_count : count (children_at 1 cs) ≡ count (children_at 3 cs)
  pub cropping_count : count (children_at 2 cs) ≡ count (children_at 3 cs)
  pub kerning_count : count (children_at 6 cs) ≡ count (children_at 3 cs)
  pub rising : Rising (children_at 3 cs)

-- The figures of a file that was read, as its rows tell them: what the code counts (02, Req 14). Assumes nothing.
use Rattle.std.specs.Prelude.{◌≡◌, List, ℕ, ◌+◌}
use Rattle.std.proofs.Math.Path.{ap}
use Rattle.std.proofs.Common.{◌∙◌}
use Rattle.layout.specs.EnumList.{EnumEntry}
use Rattle.layout.specs.Rows.{Row}
use Rattle.layout.specs.File.{file_rows}
use Rattle.reading.specs.Answer.{read}
use Rattle.reading.specs.Reads.{Small}
use Rattle.reading.specs.File.{Named, Judges, Loaded, file_at}
use Rattle.reading.specs.Drafts.{bare}
use Rattle.reading.specs.Accepts.{file_bare}
use Rattle.reading.proofs.Accepts.{file_sound}
use Rattle.pack_figures.specs.Figures.{Figure, of_load}
use Rattle.pack_figures.specs.Digest.{marks, file_marks, of_accepted, of_marks, of_digest}

-- the figures of an accepted file by its rows
unfoldable pub by_rows : (file : List ℕ) → List Row → Figure → ℕ
by_rows file rs f = of_accepted f + of_marks (marks file rs) f

module _ (es : List EnumEntry) (name_of : ℕ → List ℕ → Named) (judges : Judges es name_of) (file : List ℕ) (room : ℕ) (small : Small file) where
  pub figures_are : (a : Loaded) (e : ℕ) → file_at name_of file room ≡ read a e → (f : Figure) → of_load (read a e) f ≡ by_rows file (bare a.rows) f
  unfolding of_load by_rows
  figures_are a e q f =
      let v = (file_sound es name_of judges file room small).got q in
      let r : bare a.rows ≡ file_rows es a.tree file v.lays = ap bare v.rows_are ∙ file_bare es a.tree file v.lays in
      rw (r, file_marks file es a.tree v.lays) (of_digest a.tree.objects f)

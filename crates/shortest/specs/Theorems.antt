-- What is promised of rewriting, over the layout alone. Assumes nothing.
use Rattle.std.specs.Prelude.{◌≡◌, Bool, List, ℕ, ◌+◌, ◌≤◌, take, leb}
use Rattle.std.proofs.Math.Path.{refl, sym, ap}
use Rattle.std.proofs.Common.{◌∙◌, arith, length-append}
use Rattle.std.proofs.Math.Bool.{true, false, cond}
use Rattle.std.proofs.Math.ListN.{length}
use Rattle.laws.specs.Small.{differ}
use Rattle.layout.specs.EnumList.{EnumEntry}
use Rattle.layout.specs.File.{FileLays}
use Rattle.layout.specs.Table.{room_of}
use Rattle.layout.specs.Shortest.{Shortens, short_body, short_file}
use Rattle.reading.specs.Answer.{Answer, refused, read}
use Rattle.reading.specs.Reads.{Small}
use Rattle.reading.specs.File as load
use Rattle.reading.specs.File.{Named, Judges, Loaded, accepted, file_at, to_load, load_of}
use Rattle.reading.specs.Drafts.{bare}
use Rattle.reading.specs.Numbers.{last_number}
use Rattle.reading.specs.Refusals.{WithinName}
use Rattle.reading.proofs.Refusals.{refusal-number, refusal-place}
use Rattle.reading.proofs.Accepts.{file_complete}
use Rattle.layout.specs.Fits.{FittingTree, rows_in}
use Rattle.reading.proofs.Theorems.{accepted_is}
use Rattle.shortest.specs.File.{length_file, length-header, header_is, file_short}
use Rattle.places.specs.Padding.{file_padding}
use Rattle.shortest.specs.Rewrites.{rewrites-padding}
use Rattle.shortest.specs.Lists.{file_rewrites}
use Rattle.reading.specs.Output.{refusal, written, fitted}
use Rattle.shortest.specs.Rewrite.{by_load, rewrite_of}

module _ (es : List EnumEntry) (name_of : ℕ → List ℕ → Named) (judges : Judges es name_of) where
  -- the bytes written are the shortest of the file tree that fits
  pub rewrite_is : (file : List ℕ) (words out : ℕ) (f : FittingTree es file words) → rewrite_of name_of file words out ≡ fitted (short_file f.tree) out
  unfolding rewrite_of by_load
  rewrite_is file words out f = rw (file_complete es name_of judges file (room_of words) f.tree f.lays f.room)

  module _ (file : List ℕ) (words : ℕ) (f : FittingTree es file words) where
    -- they are laid down for the same file tree, "no bytes of that file tree are shorter, and bytes of equal length are equal"
    pub least : (bs : List ℕ) → FileLays es f.tree bs → Shortens (FileLays es f.tree) (short_file f.tree) bs
    least bs w = file_short es f.tree bs w

    -- so the rewritten file fits the same room
    abbrev pub again : FittingTree es (short_file f.tree) words
    again = record { tree = f.tree; lays = (least file f.lays).form; room = f.room }

    -- a file already shortest comes out byte for byte
    pub stays : length file ≡ length (short_file f.tree) → short_file f.tree ≡ file
    stays e = (least file f.lays).same (sym e)

    -- "length of the input = length of the output + the padding total"
    pub padding_is : length file ≡ length (short_file f.tree) + file_padding file (length f.tree.names) (rows_in f)
    padding_is =
        let r = rewrites-padding file (file_rewrites file es f.tree f.lays) in
        let ten : length (take 10 file) ≡ 10 = ap length (header_is es f.tree file f.lays) ∙ length-header f.tree.platform f.tree.flags (length file) in
        omega (arith, length_file f.tree, length-append (take 10 file) (short_body f.tree))

  -- ---- Refusals

  fitted_refusal : (bytes : List ℕ) (out : ℕ) {n p : ℕ} → fitted bytes out ≡ refusal n p → (n ≡ 21) × (p ≡ length bytes)
  unfolding fitted
  fitted_refusal bytes out {n} {p} e = go (leb (length bytes) out) e where
    go : (t : Bool) → cond t (written bytes) (refusal 21 (length bytes)) ≡ refusal n p → (n ≡ 21) × (p ≡ length bytes)
    go true e = differ cc
    go false e = (cc, cc)

  -- a refusal's number and place are small: the place is in the file, or the bytes needed, which are no more than the file's
  pub rewrite_refusal : WithinName name_of → (file : List ℕ) → Small file → (words out n p : ℕ) → rewrite_of name_of file words out ≡ refusal n p → (n ≤ 38) × (p ≤ 16777216)
  unfolding rewrite_of by_load load_of to_load
  rewrite_refusal numbers file small words out n p e = go (file_at name_of file (room_of words)) refl e where
    go : (x : Answer Loaded) → file_at name_of file (room_of words) ≡ x → by_load x out ≡ refusal n p → (n ≤ 38) × (p ≤ 16777216)
    go (refused m q) f e =
        let l : load_of name_of file words ≡ load.refusal m q = ap to_load f in
        let a = refusal-number name_of numbers file words m q l in
        let b = refusal-place name_of numbers file words m q l in
        let e₁ : m ≡ n = cc in
        let e₂ : q ≡ p = cc in
        (omega (arith, last_number a), omega (arith, b.1))
    go (read a next) f e =
        let l : load_of name_of file words ≡ accepted (bare a.rows) a.readers a.shared = ap to_load f in
        let g = (accepted_is es name_of judges file words small (bare a.rows) a.readers a.shared l).0 in
        let r : fitted (short_file g.tree) out ≡ refusal n p = sym (rewrite_is file words out g) ∙ ap (λ (y : Answer Loaded). by_load y out) f ∙ e in
        let t = fitted_refusal (short_file g.tree) out r in
        (omega (arith, t.0), omega (arith, t.1, (least file words g file g.lays).no_longer, g.lays.short))

use Rattle.std.proofs.Common.{sym, refl, ap, ◌∙◌}
use Rattle.fonts.specs.FontWords.{beyond, word_at, by_rows}
use Rattle.fonts.proofs.Laws.{no, yes}
use Rattle.fonts.proofs.font_rule.Goals as goal

pub returns-then-not-all_there : goal.returns-then-not-all_there
returns-then-not-all_there c =
    let rows = by_rows _ _ _ _ c.row_beyond-texture.ensures c.row_after-glyphs.ensures c.row_after-cropping.ensures c.row_after-characters.ensures (c.row_beyond-kerning.ensures ∙ ap (λ r. beyond r 2) c.row_after.ensures) refl in
    no _ c.all_there.ensures c.if-not-all_there.true-raw ∙ sym rows

pub returns-then-not-all_equal : goal.returns-then-not-all_equal
returns-then-not-all_equal c =
    let rows = by_rows _ _ _ _ c.row_beyond-texture.ensures c.row_after-glyphs.ensures c.row_after-cropping.ensures c.row_after-characters.ensures (c.row_beyond-kerning.ensures ∙ ap (λ r. beyond r 2) c.row_after.ensures) refl in
    yes c.all_there.ensures c.if-not-all_there.false-raw (no _ c.all_equal.ensures c.if-not-all_equal.true-raw) ∙ sym rows

pub returns : goal.returns
unfolding word_at
returns c =
    let rows = by_rows _ _ _ _ c.row_beyond-texture.ensures c.row_after-glyphs.ensures c.row_after-cropping.ensures c.row_after-characters.ensures (c.row_beyond-kerning.ensures ∙ ap (λ r. beyond r 2) c.row_after.ensures) c.row_beyond.ensures in
    yes c.all_there.ensures c.if-not-all_there.false-raw (yes c.all_equal.ensures c.if-not-all_equal.false-raw (c.rising.ensures ∙ rw c.word-count.ensures)) ∙ sym rows

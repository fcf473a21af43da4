use Rattle.std.proofs.Common.{refl, sym, ◌∙◌}
use Rattle.load_part.specs.Part.{opened}
use Rattle.pack_files.specs.Xnb.{Clear}
use Rattle.pack_report.specs.Files.{no_file_yet, one_file, no_file_left}
use Rattle.pack_report.proofs.count_files.Goals as goal

pub loop-i-init : goal.loop-i-init
loop-i-init c = let a = c.args in (refl, no_file_yet (opened a.enums.now) a.pack.now a.table.now a.files a.figures.now)

pub loop-i-preserved : goal.loop-i-preserved
loop-i-preserved c =
    let a = c.args in
    let k : Clear c.loop-i.words = rw c.loop-i.invariant.0 c.requires.1 in (
      c.count_file.ensures.words_unchanged k ∙ c.loop-i.invariant.0,
      rw (c.count_file.ensures.figures_after k, c.content_at.ensures) (c.loop-i.invariant.1 ∙ one_file (opened a.enums.now) a.pack.now a.table.now a.files c.loop-i.i c.loop-i-test.true c.loop-i.figures),
    )

pub returns : goal.returns
returns c =
    let a = c.args in
    record { figures_after = sym (c.loop-i.invariant.1 ∙ no_file_left (opened a.enums.now) a.pack.now a.table.now a.files c.loop-i.i c.loop-i-test.false c.loop-i.figures); words_unchanged = c.loop-i.invariant.0 }

use Rattle.walked.proofs.row_words.Goals as goal

pub returns : goal.returns
returns c = rw (c.word-first.ensures, c.span-bytes.ensures)

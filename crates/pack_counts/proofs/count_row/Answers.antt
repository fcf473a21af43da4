use Rattle.pack_counts.specs.Count.{text-told, image_told, plain-told}
use Rattle.pack_counts.proofs.count_row.Goals as goal

pub returns-then-kind-eq-STRING : goal.returns-then-kind-eq-STRING
returns-then-kind-eq-STRING c =
    let a = c.args in
    text-told a.file.now a.table.words.now a.table.grid a.row a.figures.now c.word-kind.ensures c.raise.ensures c.if-kind-eq-STRING.true c.word-first.ensures c.word-id.ensures c.text_bytes.ensures c.raise-then-kind-eq-STRING.ensures

pub returns-then-kind-eq-IMAGE_LEVEL : goal.returns-then-kind-eq-IMAGE_LEVEL
returns-then-kind-eq-IMAGE_LEVEL c =
    let a = c.args in
    image_told a.file.now a.table.words.now a.table.grid a.row a.figures.now c.word-kind.ensures c.raise.ensures c.if-kind-eq-IMAGE_LEVEL.true c.word-length.ensures c.level_bytes.ensures c.raise-then-kind-eq-IMAGE_LEVEL.ensures

pub returns-else-kind-eq-IMAGE_LEVEL : goal.returns-else-kind-eq-IMAGE_LEVEL
returns-else-kind-eq-IMAGE_LEVEL c =
    let a = c.args in
    plain-told a.file.now a.table.words.now a.table.grid a.row a.figures.now c.word-kind.ensures c.raise.ensures c.if-kind-eq-STRING.false c.if-kind-eq-IMAGE_LEVEL.false

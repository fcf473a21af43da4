use Rattle.key_repeats.specs.Steps.{no_dictionary, too_many, keys_found}
use Rattle.key_repeats.proofs.dictionary.Goals as goal

pub returns-then-kind-ne-DICTIONARY_KIND : goal.returns-then-kind-ne-DICTIONARY_KIND
returns-then-kind-ne-DICTIONARY_KIND c = let a = c.args in no_dictionary a.file.now a.rows.table.grid a.rows.table.words.now a.rows.used a.row c.requires c.word-kind.ensures c.if-kind-ne-DICTIONARY_KIND.true

pub returns-then-children-gt65535 : goal.returns-then-children-gt65535
returns-then-children-gt65535 c =
    let a = c.args in
    too_many a.file.now a.rows.table.grid a.rows.table.words.now a.rows.used a.row c.requires c.word-kind.ensures c.if-kind-ne-DICTIONARY_KIND.false c.word-children.ensures c.if-children-gt65535.true

pub returns-then-n-le16 : goal.returns-then-n-le16
returns-then-n-le16 c =
    let a = c.args in
    keys_found a.file.now a.rows.table.grid a.rows.table.words.now a.rows.used a.row c.requires c.word-kind.ensures c.if-kind-ne-DICTIONARY_KIND.false c.word-children.ensures c.few_keys.ensures

pub returns-then-n-le1024 : goal.returns-then-n-le1024
returns-then-n-le1024 c =
    let a = c.args in
    keys_found a.file.now a.rows.table.grid a.rows.table.words.now a.rows.used a.row c.requires c.word-kind.ensures c.if-kind-ne-DICTIONARY_KIND.false c.word-children.ensures c.many_keys.ensures

pub returns : goal.returns
returns c =
    let a = c.args in
    keys_found a.file.now a.rows.table.grid a.rows.table.words.now a.rows.used a.row c.requires c.word-kind.ensures c.if-kind-ne-DICTIONARY_KIND.false c.word-children.ensures c.many_keys-2.ensures

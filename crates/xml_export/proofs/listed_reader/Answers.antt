use mathlib.Core.Path.{refl}
use native.Mathlib.Omega.{arith}
use Rattle.reading.specs.Reads.{small_by_index}
use Rattle.readers.specs.Meaning.{lists_take}
use Rattle.xml_export.specs.Primary.{OfTexts, TextsReader}
use Rattle.xml_export.proofs.Codes.{listed-target, unlisted}
use Rattle.xml_export.proofs.listed_reader.Goals as goal

pub returns-then-id-eq0 : goal.returns-then-id-eq0
unfolding TextsReader
returns-then-id-eq0 c = (λ e. refl, λ ft w i e h. absurd (omega arith))

pub returns-then-i-ge64 : goal.returns-then-i-ge64
unfolding TextsReader
returns-then-i-ge64 c =
    let a = c.args in
    let small = small_by_index a.file.now (λ i h. omega (arith, c.type_inv.file i)) in
    let l = rw c.in-Ok.is at (lists_take a.enums.now a.file.now small 10 _ _ _ refl refl c.read_lists.ensures) in
    (λ e. refl, λ ft w i e h. absurd (omega (arith, (listed-target _ _ ft w l.1 i h).0, c.if-i-ge64.true)))

pub returns-in-Err : goal.returns-in-Err
unfolding TextsReader
returns-in-Err c =
    let a = c.args in
    let small = small_by_index a.file.now (λ i h. omega (arith, c.type_inv.file i)) in
    let l = rw c.in-Err.is at (lists_take a.enums.now a.file.now small 10 _ _ _ refl refl c.read_lists.ensures) in
    (λ e. refl, λ ft w i e h. absurd (unlisted a.enums.now a.file.now a.codes.now c.read_lists.new.codes c.read_lists.new.targets c.read_lists.new.starts _ l c.requires.1 ft w))

pub returns-else-i-ge64 : goal.returns-else-i-ge64
unfolding TextsReader OfTexts
returns-else-i-ge64 c =
    let a = c.args in
    let small = small_by_index a.file.now (λ i h. omega (arith, c.type_inv.file i)) in
    let l = rw c.in-Ok.is at (lists_take a.enums.now a.file.now small 10 _ _ _ refl refl c.read_lists.ensures) in
    (λ e. absurd (omega arith), λ ft w i e h. c.of_texts.ensures a.file.now _ ((listed-target _ _ ft w l.1 i h).1 _ (omega arith)))

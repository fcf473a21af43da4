use lib.ListN.{length}
use Rattle.driver_theorems.proofs.Laws.{beside}
use Rattle.driver_theorems.proofs.load_both.Goals as goal

pub returns : goal.returns
returns c =
    let a = c.args in
    let plain = c.load-by_plain.ensures in
    let driver = c.load_driver-by_driver.ensures in
    record {
      beside = beside a.enums.now a.file.now (length a.plain.now) (length a.words.now) plain.value plain.words_after driver.value driver.words_after;
      plain_value = plain.value;
      driver_value = driver.value;
    }

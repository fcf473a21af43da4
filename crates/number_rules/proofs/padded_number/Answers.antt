use Rattle.number_rules.specs.Numbers.{in_lists, in_rows}
use Rattle.number_rules.proofs.padded_number.Goals as goal

pub returns-in-Some : goal.returns-in-Some
returns-in-Some c = let a = c.args in λ h rows d. in_lists a.file.now a.readers rows ((rw c.in-Some.is at c.lists_numbers.ensures) h)

pub returns-in-None : goal.returns-in-None
returns-in-None c =
    let a = c.args in λ h rows d. in_rows a.file.now a.readers rows c.rows_numbers.result ((rw c.in-None.is at c.lists_numbers.ensures) h) (c.rows_numbers.ensures rows d)

-- What is demanded of a report (02, Req 14), as contracts of functions that call the code.
pub mod Runs

-- What is demanded of the numbers that the entries over packs answer and write.
pub mod Numbers

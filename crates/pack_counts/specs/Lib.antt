-- Counting a file into the words of a report (02, Req 14).
pub mod Raise
pub mod Count

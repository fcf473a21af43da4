-- What a season of packs contains (02, Req 14): the figures of a list of packs, the words of a report, and what adding to a report answers.
pub mod Figures
pub mod Report
pub mod Digest
pub mod Counted
pub mod Short

-- The text of a journal.
pub mod Naming
pub mod Room
pub mod Text
pub mod TextOfJournal

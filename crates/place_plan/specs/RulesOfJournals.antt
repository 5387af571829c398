-- The rules of a journal, and the notions that they look back with.
pub mod Entries
pub mod Whereabouts
pub mod Raising
pub mod Objects
pub mod Roles
pub mod Rules
pub mod Journals
pub mod Attempts
pub mod WellFormed
pub mod Machine

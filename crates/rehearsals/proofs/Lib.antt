pub mod Reversed
pub mod Counting
pub mod JournalsCounted

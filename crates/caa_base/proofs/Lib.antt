pub mod Counting
pub mod KnownBytes
pub mod ListLemmas
pub mod ReadDigits
pub mod ValueRange

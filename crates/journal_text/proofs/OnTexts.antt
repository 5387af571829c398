-- Lemmas on the text of a journal.
pub mod TextLemmas
pub mod ValueLemmas
pub mod WordLemmas
pub mod DigitLemmas
pub mod NamingLemmas
pub mod WellNamed
pub mod TokenLemmas
pub mod FieldTokens
pub mod EntryLines
pub mod EntryTokens
pub mod SeenTokens
pub mod ReadingLemmas
pub mod BadLines
pub mod LineLengths
pub mod ShortLines
pub mod BlockLemmas

-- Lemmas on words.
pub mod Pieces
pub mod Numbering
pub mod LineCuts
pub mod WordCuts
pub mod NamesCounted
pub mod Numerals
pub mod Inky
pub mod JoinedAndCut
pub mod LineStarts

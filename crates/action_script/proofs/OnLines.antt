-- Lemmas on lines and on how they are read.
pub mod Speaking
pub mod Steadiness
pub mod LineByLine
pub mod LineNumbers
pub mod PlainLines

-- Lemmas on forms and on the text of a script.
pub mod Fits
pub mod Shapes
pub mod Numbered
pub mod PrintedLines
pub mod ReadsBack
pub mod WellRead
pub mod Named
pub mod Sorted
pub mod NamedFrom

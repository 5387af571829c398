-- Lines: their kinds, what their words are asked to be, and what all lines of a text spell.
pub mod Kinds
pub mod Asked
pub mod Spelling

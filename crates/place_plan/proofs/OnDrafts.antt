-- Lemmas on drafts.
pub mod DraftKeeps
pub mod BitsOfObjects

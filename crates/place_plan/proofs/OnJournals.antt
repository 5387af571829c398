-- Lemmas on journals.
pub mod EntryKinds
pub mod LegalProp
pub mod LatestValues

-- Drafts, and the rules that a draft keeps.
pub mod DraftRules

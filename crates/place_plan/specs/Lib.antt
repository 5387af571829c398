pub mod Drafts
pub mod Plans
pub mod RulesOfJournals
pub mod inner

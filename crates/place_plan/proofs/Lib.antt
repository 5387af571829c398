pub mod OnDrafts
pub mod OnPlans
pub mod OnJournals

-- Lemmas on what watchers saw.
pub mod LooksLemmas
pub mod CommittedFits
pub mod CommittedLemmas
pub mod RightLooks

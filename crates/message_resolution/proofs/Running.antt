-- How a run's nodes and messages follow its history.
pub mod Places
pub mod NodesFollow
pub mod SettlingSteps
pub mod Worlds

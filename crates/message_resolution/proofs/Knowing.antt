-- What a node's parts tell of its member, and how they follow its events.
pub mod States
pub mod TakingSteps
pub mod Resolving

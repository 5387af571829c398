pub mod Chains
pub mod Graph
pub mod inner

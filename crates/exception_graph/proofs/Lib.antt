pub mod Chained
pub mod Mutual
pub mod Pairs
pub mod GraphCauses
pub mod ClosingSteps

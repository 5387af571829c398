pub mod ReachedSteps
pub mod CanCome
pub mod Reach

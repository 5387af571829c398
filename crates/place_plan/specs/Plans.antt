-- Plans: the places of a draft, how they lie in one another, and how many there are.
pub mod PlanValue
pub mod Places
pub mod OwnNames
pub mod Bound
pub mod Unfolding
pub mod Closed
pub mod Weights

-- Lemmas on plans and their unfolding.
pub mod PlaysRise
pub mod Passing
pub mod Subtrees
pub mod UnfoldedPlan
pub mod Casts
pub mod Counted
pub mod Weighing
pub mod Unfolds
pub mod PlaceLists
pub mod MadePlan
pub mod ClosedPlan
pub mod SmallParts

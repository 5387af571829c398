pub mod EndingsKept
pub mod PlanNumbers
pub mod RightAnswers
mod Concluding
mod Opened

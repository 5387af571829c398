pub mod PlanDepths
mod ObjectByObject
pub mod VersionsKept

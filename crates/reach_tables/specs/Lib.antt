pub mod ReachTable
pub mod Never
pub mod inner

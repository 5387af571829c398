-- Inner definitions: nobody who reads the contracts of this crate has to believe them.
pub mod WorldOfPlan

-- The outside: how faults are counted, and what sources, sinks and plants tell.
pub mod Counts
pub mod Memory
pub mod PlantState
pub mod Reading
pub mod Writing

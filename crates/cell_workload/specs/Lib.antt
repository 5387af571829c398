pub mod CellNames
pub mod CellLines
pub mod CellScript
pub mod Summary

-- What the code keeps and finds its answers by: no contract of a public call cites it.
pub mod Checks
pub mod Joins
pub mod TablesOfSizes
pub mod Uppers

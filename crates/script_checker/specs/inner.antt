-- What the code keeps and finds its answers by: no contract of a public call cites it.
pub mod Chosen
pub mod DrillTable
pub mod Ends
pub mod Lending
pub mod Rows

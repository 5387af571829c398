-- What the code keeps and finds its answers by: no contract of a public call cites it.
pub mod ObjectBits
pub mod PlaceLists
pub mod PlanView
pub mod Tables
pub mod Unfolded

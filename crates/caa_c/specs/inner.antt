-- What the code keeps and finds its answers by: no contract of a call of C cites it.
pub mod Kept
pub mod Lines

-- What the code keeps and finds its answers by: no contract of a public call cites it.
pub mod Keeping

-- What the code keeps: no contract of a public call cites it.
pub mod Putting

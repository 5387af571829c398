-- What the code keeps and finds its answers by: no contract of a public call cites it.
pub mod Boards
pub mod Chronicles
pub mod Entering
pub mod Seating

-- What the code keeps and finds its answers by: no contract of a public call cites it.
pub mod Composed
pub mod Deciding
pub mod OpenedPlays
pub mod Unbegun
pub mod DeviceOfHall

-- What the code keeps and finds its answers by: no contract of a public call cites it.
pub mod Crew
pub mod CrewRooms
pub mod Gathering
pub mod Records
pub mod Sleeping
pub mod WatchRooms
pub mod Watchers

-- What the steps of a relay tell, and what workers keep: no contract of a public call cites it.
pub mod Steps
pub mod Rooms
pub mod Workers

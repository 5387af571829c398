-- All members: the history of their events, what is legal, what is agreed, and how the network settles.
pub mod Courses
pub mod Legal
pub mod Agreement
pub mod Settling
pub mod Worlds

pub mod SeatLists
pub mod Relays
pub mod Hands
pub mod Played
pub mod inner

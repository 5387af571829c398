-- How a world of a plan goes on as the definitions say, and what is written of it.
pub mod Wishes
pub mod Rounds
pub mod Lines

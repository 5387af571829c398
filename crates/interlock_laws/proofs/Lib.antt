pub mod HandlerSpots
pub mod SpotSteps
pub mod StayedIn
pub mod BodySpots
pub mod SpotsOfPast
pub mod UsesBehind
pub mod AlternatesLeft
pub mod SpotsFitting

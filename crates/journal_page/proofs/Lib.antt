pub mod StanceLemmas
pub mod TurnLemmas
pub mod TextLemmas

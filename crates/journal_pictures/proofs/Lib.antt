pub mod ApartLemmas
pub mod BarLemmas
pub mod LaneLemmas
pub mod MarksLemmas
pub mod PartLemmas
pub mod StretchLemmas
pub mod TextLemmas

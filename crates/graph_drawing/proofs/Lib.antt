pub mod LayersLemmas
pub mod SpotsLemmas

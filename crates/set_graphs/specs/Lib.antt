pub mod Sets
pub mod SetGraph
pub mod inner

-- One member: what it meets, what it sends, and what a node keeps of it.
pub mod LeastCover
pub mod LocalEvents
pub mod Answers
pub mod Nodes
pub mod Repeated

pub mod Harmless

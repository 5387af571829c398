pub mod NoneComes

-- Inner definitions, of what tables and steps keep: nobody who reads the contracts of this crate has to believe them.
pub mod TakingIn
pub mod Deliveries
pub mod Runs
pub mod Rows
pub mod HeldWorlds

pub mod Stances
pub mod Pages

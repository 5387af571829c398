pub mod Logs
pub mod Telling
pub mod Live
pub mod LineLogs
pub mod LoggedPlants
pub mod Noting
pub mod inner

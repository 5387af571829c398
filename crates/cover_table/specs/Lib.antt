pub mod Cover
pub mod SizedTables
pub mod inner

-- Inner definitions, of what the table keeps of each object: who reads the claims of the program need not believe them.
pub mod KeptVersions
pub mod ChangedVersions

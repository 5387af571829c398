-- Inner definitions, of what the table keeps of the end of each place: who reads the claims of the program need not believe them.
pub mod KeptEndings
pub mod ChangedEndings

-- Inner definitions, of what the tables keep: who reads the claims of the program need not believe them.
pub mod KeptStages
pub mod KeptPeople
pub mod Asked
pub mod Raisings
pub mod KeptPast
pub mod OneWay

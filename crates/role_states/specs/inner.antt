-- Inner definitions, of the frames that are kept of each participant: who reads the claims of the program need not believe them.
pub mod Stacks
pub mod Standing

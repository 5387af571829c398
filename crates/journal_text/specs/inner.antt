-- What the code keeps and finds its answers by: no contract of a public call cites it.
pub mod KnownValues
pub mod TextSteps
pub mod Tokens
pub mod CommittedValues
pub mod SaidNames

pub mod SetNames
pub mod Refusals
pub mod MadeScripts
pub mod MadeGraphs
pub mod Answers

pub mod RuledOut
pub mod Untried

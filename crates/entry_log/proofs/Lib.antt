mod MadeEntries
pub mod LogLemmas
pub mod LiveLemmas
mod Walks

pub mod MadeEntries

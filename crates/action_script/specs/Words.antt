-- Words: how lines and words are parted, where a journal begins behind a script, what a word says, and how names are numbered.
pub mod ScriptWords
pub mod NumberedNames
pub mod CutLines
pub mod JournalStarts

pub mod Committing
pub mod Noted
pub mod Publications
pub mod RefusedNotes
pub mod Telling
pub mod inner

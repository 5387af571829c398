pub mod Left
pub mod Asked
pub mod Spoken
pub mod Alike
pub mod Followed
pub mod Tops
pub mod LoneJournal
pub mod Joined

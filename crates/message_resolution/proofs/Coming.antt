-- What every legal past keeps true of the messages that were sent and of what each member met.
pub mod Answering
pub mod Kept
pub mod Advance
pub mod Deciding
pub mod LegalPasts
pub mod FewMessages
pub mod Settled

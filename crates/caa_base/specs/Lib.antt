pub mod Written
pub mod Outside
pub mod inner

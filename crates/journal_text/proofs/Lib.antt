pub mod OnTexts
pub mod OnLooks

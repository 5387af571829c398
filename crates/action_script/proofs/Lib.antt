pub mod OnWords
pub mod OnLines
pub mod OnForms

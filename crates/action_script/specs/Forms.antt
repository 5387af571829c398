-- Forms: what lines say, the script that they make, and its text.
pub mod LineForms
pub mod ScriptValue
pub mod Printing
pub mod Uses

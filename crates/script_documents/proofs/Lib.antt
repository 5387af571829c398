mod Places
mod Utf16

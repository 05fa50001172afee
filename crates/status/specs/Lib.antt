pub mod Limits
pub mod Bits
pub mod Numbers
pub mod Entries
pub mod Places
pub mod Page
pub mod Claims

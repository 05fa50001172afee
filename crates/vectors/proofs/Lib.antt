pub mod Worked
pub mod CipherExample

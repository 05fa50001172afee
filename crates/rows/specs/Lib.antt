pub mod Lent
pub mod States
pub mod ReadKeys

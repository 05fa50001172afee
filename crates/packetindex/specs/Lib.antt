pub mod Limits
pub mod Estimating
pub mod Updating
pub mod Nearest
pub mod Following

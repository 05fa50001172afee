pub mod Limits
pub mod Grammar
pub mod Splitting
pub mod Parts
pub mod Claims

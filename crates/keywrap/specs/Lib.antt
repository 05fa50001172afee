pub mod Limits
pub mod KeyWrap
pub mod Padding
pub mod Calls
pub mod Claims
pub mod Inner

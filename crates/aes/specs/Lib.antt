pub mod Field
pub mod State
pub mod KeyExpansion
pub mod Cipher
pub mod Circuit
pub mod Columns

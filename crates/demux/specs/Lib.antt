pub mod Sorting
pub mod Ranges

pub mod Packing
pub mod Outcomes
pub mod Record

pub mod LengthLaws
pub mod Built
pub mod Accepted
pub mod Refusal

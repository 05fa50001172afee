pub mod LengthLaws
pub mod OutputLaws
pub mod Pieces

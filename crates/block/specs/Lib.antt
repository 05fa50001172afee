pub mod RowPart
pub mod Spots
pub mod InTable

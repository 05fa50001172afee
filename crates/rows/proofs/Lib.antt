pub mod LentLaws
pub mod PadLaws
pub mod EndsLaws
pub mod RowWriting
pub mod ArrayLaws

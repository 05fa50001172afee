pub mod CheckLaws
pub mod ReceivingLaws
pub mod RecordReads
pub mod Sendable
pub mod PackingLaws
pub mod PageLaws
pub mod EntryLaws
pub mod SortLaws

pub mod InTableLaws
pub mod FindLaws
pub mod WordLaws
pub mod SpotLaws
pub mod WritingLaws

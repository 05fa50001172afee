pub mod TriedRoc
pub mod NearLaws
pub mod HalfWay
pub mod ClosestRoc
pub mod NearestIndex
pub mod Exactly
pub mod Updates
pub mod Followed

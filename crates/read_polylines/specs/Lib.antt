pub mod PointFields
pub mod Codes
pub mod Ways
pub mod Points

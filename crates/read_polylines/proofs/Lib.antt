pub mod PointFields
pub mod Next
pub mod Ways
pub mod PointLaws

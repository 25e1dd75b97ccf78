pub mod Fields
pub mod Reasons

pub mod Text
pub mod Outcomes

pub mod Split
pub mod Lines

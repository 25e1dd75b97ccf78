pub mod Names
pub mod Attributes
pub mod Records
pub mod References
pub mod Walk
pub mod Same

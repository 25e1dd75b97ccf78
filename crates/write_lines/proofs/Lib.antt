pub mod Cutting
pub mod Ending
pub mod Left
pub mod Puts
pub mod Runs

pub mod Cuts
pub mod Puts

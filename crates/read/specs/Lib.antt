pub mod Unfolded
pub mod Same

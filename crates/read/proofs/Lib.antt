pub mod Marking
pub mod Unfolding
pub mod Files
pub mod Same

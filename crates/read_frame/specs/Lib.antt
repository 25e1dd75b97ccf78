pub mod Codes
pub mod Heads
pub mod Moves
pub mod Finds

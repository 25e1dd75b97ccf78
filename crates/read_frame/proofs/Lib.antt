pub mod Words
pub mod Heads
pub mod Moves
pub mod Finds
pub mod TopicLines
pub mod TableLines

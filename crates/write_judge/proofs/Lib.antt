pub mod Signs
pub mod Drawn
pub mod Values
pub mod Walk
pub mod Marking
pub mod Heads
pub mod Turns
pub mod Whole

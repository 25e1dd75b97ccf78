pub mod Last
pub mod Hashes
pub mod Parts
pub mod Walk
pub mod Grown
pub mod Meant
pub mod Kept
pub mod More

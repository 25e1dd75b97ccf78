pub mod Objects
pub mod Index
pub mod Holds
pub mod Read

pub mod Named
pub mod Attributes
pub mod Resolving

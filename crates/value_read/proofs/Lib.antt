pub mod Counting
pub mod Shapes

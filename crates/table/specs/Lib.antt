pub mod Contents
pub mod Stretches
pub mod Rows

pub mod Cutting
pub mod FourCells
pub mod Written

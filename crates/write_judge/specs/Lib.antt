pub mod Meant
pub mod Marks
pub mod Rows
pub mod Tables

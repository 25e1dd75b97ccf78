pub mod Tables
pub mod Fields
pub mod Names
pub mod Rows

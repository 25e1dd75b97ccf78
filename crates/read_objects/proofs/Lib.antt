pub mod Tables
pub mod Records
pub mod Ends
pub mod Cells
pub mod Names
pub mod RowLaws
pub mod Fields

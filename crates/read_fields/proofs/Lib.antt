pub mod Stores
pub mod Pairs
pub mod RowFilled
pub mod Due
pub mod Coordinates
pub mod Attributes

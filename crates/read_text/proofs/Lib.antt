pub mod TextLines
pub mod Turns
pub mod Going
pub mod Counted
pub mod Referring
pub mod Endings

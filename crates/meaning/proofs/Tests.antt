pub mod Refuse
pub mod Unequal
pub mod Same

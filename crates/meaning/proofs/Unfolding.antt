pub mod Physical
pub mod Cuts
pub mod Faults
pub mod Widths
pub mod TextLeft
pub mod Texts

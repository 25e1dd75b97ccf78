mod Leading
mod Physical
mod Judged
mod Flat
mod Kept
pub mod Claims

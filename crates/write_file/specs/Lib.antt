pub mod Styles
pub mod Walks

pub mod Joined
pub mod Typed
pub mod Components
pub mod Walking
pub mod Drawn
pub mod Whole

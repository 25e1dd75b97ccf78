pub mod Answer
pub mod First
pub mod LinePart
pub mod Turn
pub mod Claims

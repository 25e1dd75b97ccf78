pub mod Twos
pub mod ComponentLaws
pub mod Checked
pub mod Types
pub mod AtRecord
pub mod Noting
pub mod Counting
pub mod Walking

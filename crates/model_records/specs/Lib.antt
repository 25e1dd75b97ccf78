pub mod Components
pub mod Records
pub mod Attributes
pub mod AtRecord
pub mod Places
pub mod Counts
pub mod AttributeRecords

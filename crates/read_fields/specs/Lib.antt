pub mod FieldForm
pub mod RowProgress

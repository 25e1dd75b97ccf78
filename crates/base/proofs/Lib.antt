pub mod Scan
pub mod Fill
pub mod Runs
pub mod Signs
pub mod Four
pub mod Results
pub mod Numbered

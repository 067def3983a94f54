pub mod Completeness
pub mod Complete
pub mod Itemwise
pub mod Entrywise
pub mod Checked
pub mod Tested

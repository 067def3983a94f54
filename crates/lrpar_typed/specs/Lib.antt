pub mod Rows
pub mod TypedParse

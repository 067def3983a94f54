pub mod First
pub mod FirstRows
pub mod Stored

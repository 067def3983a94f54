pub mod Code
pub mod Literals

pub mod Viable
pub mod Marks
pub mod Checks

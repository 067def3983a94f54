pub mod Levels
pub mod ByName
pub mod Filled
pub mod Stored
pub mod Declarations

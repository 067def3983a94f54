pub mod Places
pub mod Edits
pub mod Labels
pub mod Levels

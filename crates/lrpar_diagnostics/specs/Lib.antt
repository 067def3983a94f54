pub mod Subject
pub mod Underline
pub mod Location
pub mod Blocks
pub mod ConflictText
pub mod StoredConflicts

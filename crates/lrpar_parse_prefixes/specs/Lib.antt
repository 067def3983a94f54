pub mod Viable
pub mod ViableLaws
pub mod FirstErrors
pub mod ErrorStates
pub mod Unviable

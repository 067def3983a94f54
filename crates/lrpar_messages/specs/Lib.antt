pub mod Groups
pub mod Messages

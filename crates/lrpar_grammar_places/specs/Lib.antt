pub mod Span
pub mod Facts
pub mod Comparisons
pub mod Lines
pub mod Strings

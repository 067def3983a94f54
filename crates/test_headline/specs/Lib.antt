pub mod Answered
pub mod Leaves
pub mod Percents
pub mod Repaired
pub mod Sentences
pub mod Syntax
pub mod Worked

pub mod BuilderLaws
pub mod Built
pub mod KeptApart
pub mod Stored

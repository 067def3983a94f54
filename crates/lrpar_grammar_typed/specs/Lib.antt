pub mod Expanding
pub mod Expansion
pub mod Forms
pub mod ListTrees
pub mod PartsOf
pub mod Syntax
pub mod Words

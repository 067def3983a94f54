pub mod Words
pub mod WordOrder
pub mod Outline
pub mod Phrases
pub mod Forms
pub mod Kinds
pub mod WordList

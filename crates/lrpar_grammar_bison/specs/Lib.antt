pub mod Words
pub mod WordList
pub mod Numbers
pub mod Spellings

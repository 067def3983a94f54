pub mod WithToken
pub mod Copies
pub mod TokenLaws

pub mod Places
pub mod Tokens
pub mod Writers

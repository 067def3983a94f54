pub mod Directives
pub mod Signs
pub mod WordOrder
pub mod Aliases
pub mod Rules

pub mod Parts
pub mod Steps
pub mod Erasure
pub mod Declares
pub mod Faults
pub mod Laws
pub mod YaccFiles

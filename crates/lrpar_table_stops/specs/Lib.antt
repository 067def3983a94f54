pub mod ErrorStates
pub mod Met
pub mod Runs

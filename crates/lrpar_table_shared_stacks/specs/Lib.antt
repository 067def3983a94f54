pub mod SharedStacks

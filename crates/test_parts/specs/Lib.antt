pub mod Calculator

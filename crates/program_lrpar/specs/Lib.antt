pub mod Sums
pub mod SumAnswers

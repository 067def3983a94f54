pub mod PrecedenceTrees
pub mod OperatorGrammars

pub mod Options
pub mod ParserDataBy

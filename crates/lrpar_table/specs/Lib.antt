pub mod TableLaws
pub mod ParserData

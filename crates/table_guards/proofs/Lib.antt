pub mod TableSingles
pub mod TableCases

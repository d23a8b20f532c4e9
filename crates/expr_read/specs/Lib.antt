pub mod Views
pub mod Names
pub mod Fields
pub mod Expressions

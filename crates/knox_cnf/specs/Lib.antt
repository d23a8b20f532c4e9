pub mod Literals
pub mod Formulas

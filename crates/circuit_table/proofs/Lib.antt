pub mod SortsLemmas
pub mod LiteralsLemmas
pub mod ConstantsLemmas
pub mod RowsLemmas
pub mod TypedLemmas
pub mod ShapeLemmas
pub mod WholeLemmas

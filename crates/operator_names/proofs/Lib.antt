pub mod NamedLemmas
pub mod NamesLemmas

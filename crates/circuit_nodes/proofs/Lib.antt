pub mod ChainLemmas
pub mod ListLemmas
pub mod LogicLemmas
pub mod ReadsLemmas
pub mod SourcesLemmas
pub mod StartsLemmas
pub mod TicksLemmas
pub mod ValuesLemmas

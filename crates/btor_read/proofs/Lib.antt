pub mod TokensLemmas
pub mod NodesLemmas
pub mod GrammarLemmas
pub mod ReadingLemmas
pub mod MeaningLemmas

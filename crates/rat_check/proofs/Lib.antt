pub mod Sound
pub mod OccurrenceLemmas
pub mod CoveringLemmas
pub mod RefutationLemmas
pub mod GroupLemmas
pub mod RatLemmas

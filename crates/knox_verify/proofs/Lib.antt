pub mod Deciding
pub mod FaultsLemmas

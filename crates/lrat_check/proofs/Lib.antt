pub mod PlaceLemmas
pub mod LiteralLemmas
pub mod HintSteps
pub mod Sound
pub mod KeptLemmas

pub mod ReadSteps
pub mod TextsLemmas
pub mod WritingLemmas
pub mod RunsLemmas
pub mod CheckSteps
pub mod SolvingLemmas
pub mod SolvedLemmas
pub mod ConsequencesLemmas

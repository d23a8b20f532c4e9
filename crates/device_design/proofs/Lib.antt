pub mod DialogueLemmas
pub mod AskingLemmas
pub mod PowerLemmas
pub mod RomLemmas
pub mod DesignLemmas
pub mod DriverLemmas
pub mod FitsLemmas
pub mod LawfulLemmas

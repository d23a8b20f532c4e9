pub mod Words
pub mod Judgements
pub mod Meanings
pub mod Faults
pub mod Verdicts

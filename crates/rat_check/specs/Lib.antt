pub mod Groups
pub mod Rat
pub mod Refutations
pub mod Occurrences
pub mod Covering
pub mod Soundness
pub mod Kept

pub mod Register
pub mod Marks
pub mod Reading
pub mod Hints
pub mod Derivations
pub mod Kept
pub mod Soundness

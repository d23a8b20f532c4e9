pub mod Counts
pub mod Texts
pub mod Shelf
pub mod Sink

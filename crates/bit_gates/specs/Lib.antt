pub mod Rolled
pub mod Gates
pub mod Grown
pub mod Words
pub mod Pairs
pub mod Sums

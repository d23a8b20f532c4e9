pub mod Values
pub mod Ticks
pub mod Starts
pub mod Logic
pub mod Hops
pub mod Sources
pub mod Needs

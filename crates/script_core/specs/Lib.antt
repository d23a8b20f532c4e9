pub mod Hints
pub mod Forms
pub mod Runs
pub mod Widths
pub mod Branches
pub mod Decisions
pub mod Rooms
pub mod Reached

pub mod Entries
pub mod Statements
pub mod Bodies
pub mod Specifications
pub mod Calls
pub mod Drivers
pub mod Emulators
pub mod Examples

pub mod Roms
pub mod Meaning

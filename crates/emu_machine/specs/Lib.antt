pub mod Fields
pub mod Fits
pub mod Emulator
pub mod Dialogue

pub mod Spot
pub mod Places
pub mod Inside
pub mod Numbers
pub mod Examples
pub mod Lines
pub mod Tokens
pub mod Pieces

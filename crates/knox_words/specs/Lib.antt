pub mod Bits
pub mod Signs
pub mod Ops
pub mod Lists
pub mod Typing

pub mod Store
pub mod Events
pub mod Hinted

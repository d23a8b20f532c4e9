pub mod Taken
pub mod Forms
pub mod Texts
pub mod Lacking

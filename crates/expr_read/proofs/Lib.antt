pub mod Weights
pub mod Parts
pub mod Lists
pub mod NotMissing
pub mod NotMissingExpr
pub mod Numbered

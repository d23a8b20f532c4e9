mod Lacking
mod Endings
mod Faults
mod Filled
mod Parts
mod NotMissingStmt
mod NotMissingDriver

pub mod DimacsLemmas
pub mod LratLemmas
pub mod Digits
pub mod CnfAgain
pub mod CnfSound
pub mod LratAgain
pub mod LratSound

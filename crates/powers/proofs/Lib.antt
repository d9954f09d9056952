pub mod Residues
pub mod Halves
pub mod Primes
pub mod Inverses
pub mod Fermat
pub mod Roots

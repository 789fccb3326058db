pub mod Coprime
pub mod Distance
pub mod Division
pub mod Interval
pub mod Residue

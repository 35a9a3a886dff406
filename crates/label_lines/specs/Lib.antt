pub mod Faults
pub mod Fields
pub mod Labels
pub mod Parts

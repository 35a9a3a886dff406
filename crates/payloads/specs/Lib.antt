pub mod Contents
pub mod Law
pub mod Readings

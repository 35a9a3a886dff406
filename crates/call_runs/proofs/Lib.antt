pub mod Buffers
pub mod Lawfully
pub mod Served

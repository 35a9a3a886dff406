pub mod Nearing
pub mod Spots
pub mod WindowRead

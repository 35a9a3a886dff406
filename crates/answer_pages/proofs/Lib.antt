pub mod Asking
pub mod Gathering
pub mod Lengths
pub mod Slotting

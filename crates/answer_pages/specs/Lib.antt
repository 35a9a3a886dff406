pub mod Pages
pub mod Slots

pub mod Agreement
pub mod Ends
pub mod Passing
pub mod Stepping
pub mod Walking
pub mod Whole

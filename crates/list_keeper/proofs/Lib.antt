pub mod Listing
pub mod Keeping
pub mod Changes
pub mod Asking
pub mod Writing

pub mod Rolls
pub mod Views

pub mod Reaching
pub mod Signs
pub mod Views

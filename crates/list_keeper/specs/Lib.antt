pub mod Tells
pub mod Keeping
pub mod ListKeepers

pub mod Gives
pub mod Writing

pub mod Laid
pub mod Layers
pub mod Marking
pub mod Meanings
pub mod Plays
pub mod Runs
pub mod Scripts
pub mod Settled

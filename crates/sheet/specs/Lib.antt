pub mod Kinds
pub mod Steps
pub mod Marks
pub mod Shown
pub mod Faults

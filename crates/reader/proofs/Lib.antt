pub mod Arguments
pub mod Copied
pub mod Occurrences
pub mod Faults

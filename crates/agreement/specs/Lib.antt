pub mod Sessions
pub mod Reckoning
pub mod Laws
pub mod Comparing
pub mod Giving

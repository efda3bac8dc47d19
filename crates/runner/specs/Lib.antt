pub mod Settings
pub mod Following
pub mod Serving
pub mod Running
pub mod Laying
pub mod Playing
pub mod Meaning
pub mod Turning

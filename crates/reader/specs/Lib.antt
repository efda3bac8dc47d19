pub mod Reading
pub mod TermKinds
pub mod Records
pub mod Heads
pub mod Trees
pub mod Payloads

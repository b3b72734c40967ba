pub mod Heads
pub mod Marking
pub mod Headless

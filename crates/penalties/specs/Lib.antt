pub mod Sides
pub mod Settings
pub mod Kept

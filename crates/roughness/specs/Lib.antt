pub mod Maps
pub mod Kept
pub mod Diffs
pub mod Bending
pub mod Steps

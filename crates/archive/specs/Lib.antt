pub mod File
pub mod Writing
pub mod Runs
pub mod Cases

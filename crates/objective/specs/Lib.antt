pub mod Objective
pub mod Checks
pub mod Promises
pub mod Gaps

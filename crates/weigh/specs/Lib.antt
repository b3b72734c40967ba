pub mod Answered
pub mod Counts
pub mod Firings
pub mod Named
pub mod Printed
pub mod Steps

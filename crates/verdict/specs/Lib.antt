pub mod Lawful
pub mod Wrong
pub mod Stages
pub mod Verdicts
pub mod Accepted

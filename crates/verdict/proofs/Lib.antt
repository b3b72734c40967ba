pub mod Held
pub mod Refused
pub mod Places
pub mod Clear
pub mod Stops
pub mod Weighed
pub mod Passing
pub mod Judging

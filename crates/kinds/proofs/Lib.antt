pub mod Ring
pub mod Bits
pub mod Places
pub mod Passing

pub mod Known
pub mod Cases
pub mod Raised

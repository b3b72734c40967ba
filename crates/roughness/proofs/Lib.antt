pub mod Products
pub mod Calls
pub mod Layer
pub mod Windows
pub mod Bent

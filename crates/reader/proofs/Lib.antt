pub mod Cuts
pub mod Keeping
pub mod Texts
pub mod Heads
pub mod Order
pub mod Same
pub mod Reading

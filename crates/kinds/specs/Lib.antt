pub mod Refusals
pub mod Checks
pub mod Figures
pub mod Minutes
pub mod Roughness
pub mod Penalty
pub mod Adding

pub mod Words
pub mod Figures
pub mod Spellings
pub mod Arguments
pub mod Grammar
pub mod Lines
pub mod Cursor

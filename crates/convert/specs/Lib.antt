-- How the conversion judges and what its calls answer (rules 4.2, 4.3, 5.2 and 5.3).
pub mod Small
pub mod Slots
pub mod Codes
pub mod Blocks
pub mod Shapes
pub mod Told
pub mod Answers

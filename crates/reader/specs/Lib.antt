-- The reader (rule 4.5).
pub mod Symbols

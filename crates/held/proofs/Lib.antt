-- Merged texts (Texts, Rewriting), texts that are read in part (Ways), what is held there (Runs) and after each symbol (Symbols), the largest count (Bounds),
-- and the theorems (Theorems).
pub mod Texts
pub mod Rewriting
pub mod Ways
pub mod Runs
pub mod Symbols
pub mod Bounds
pub mod Theorems

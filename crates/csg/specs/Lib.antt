-- Halfspaces, balls and trees (rules, sections 2 and 3), and the raw expression (4.2).
pub mod Halfspace
pub mod Ball
pub mod Surfaces
pub mod Tree
pub mod Words
pub mod Marks
pub mod Raw

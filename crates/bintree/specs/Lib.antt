-- Expressions and verdicts (rules, sections 4 and 5): shapes and their symbols, reading, merging, parts and colours,
-- counts, verdicts, and what each question answers.
pub mod Told
pub mod Shape
pub mod Reading
pub mod Answers
pub mod Merging
pub mod Parts
pub mod Counts
pub mod Verdicts
pub mod Walks
pub mod Windows

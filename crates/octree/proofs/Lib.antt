-- Laws of the definitions (Octrees, Partings, Colours), then those of the functions: Imports of src/runs.rt, Exports of
-- src/sons.rt, Answers of src/lib.rt.
pub mod Octrees
pub mod Partings
pub mod Colours
pub mod Imports
pub mod Exports
pub mod Answers

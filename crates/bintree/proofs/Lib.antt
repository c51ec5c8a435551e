-- Laws of the definitions, one file for each; then those of the functions, by module of src/ (Owed: walk.rt and window.rt, Walks: walk.rt, Voxels:
-- voxel.rt, Lays and Merges: lay.rt, Measures: measure.rt, Places: place.rt, Frames, Watches, Watching and WindowAnswers: window.rt).
pub mod Shape
pub mod Reading
pub mod Answers
pub mod Ends
pub mod Parts
pub mod Merging
pub mod Counts
pub mod Verdicts
pub mod Windows
pub mod Owed
pub mod Walks
pub mod Voxels
pub mod Lays
pub mod Measures
pub mod Merges
pub mod Places
pub mod Frames
pub mod Watches
pub mod Watching
pub mod WindowAnswers

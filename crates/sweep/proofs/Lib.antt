-- Laws of the definitions (Over, Sweeping, Paths, Voxels, Trees, Work), then those of the functions: Slots, Pushes and Pulls of src/places.rt, Lists, Blocks
-- and
-- Halvings of
-- src/block.rt, Suffices and Answers of src/lib.rt.
pub mod Over
pub mod Sweeping
pub mod Paths
pub mod Voxels
pub mod Slots
pub mod Pushes
pub mod Pulls
pub mod Trees
pub mod Work
pub mod Lists
pub mod Blocks
pub mod Halvings
pub mod Suffices
pub mod Answers

-- The swept space (rules, section 12): shapes laid over each other and swept along an axis, what that is from the
-- voxels' colours, what the call answers and writes, and the walk by places that the code makes.
pub mod Sweeping
pub mod Voxels
pub mod Told
pub mod Answers
pub mod Places
pub mod Work

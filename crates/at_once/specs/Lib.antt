-- Answers at once: how trees stand in local room, how they are loaded and pruned there, words, and the recursions over
-- blocks.
pub mod Codes
pub mod Values
pub mod Pruning
pub mod Loading
pub mod Words
pub mod Moves
pub mod Own
pub mod Both
pub mod Counting
pub mod Tallies
pub mod Whole
pub mod Told
pub mod Answers
pub mod Merged
pub mod Voxel
pub mod Raw
pub mod Conversions
pub mod Contacts

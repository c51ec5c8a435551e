-- The colours of a block's voxels in one number, and what is read off it.
pub mod Mask
pub mod Block
pub mod Steps
pub mod Leaves
pub mod Trees
pub mod Shapes
pub mod Counts
pub mod Windows
pub mod Ends
pub mod MaskEnds
pub mod Contacts
pub mod Own
pub mod Seen

-- Laws of masks.
pub mod Mask
pub mod Digits
pub mod Block
pub mod Steps
pub mod Leaves
pub mod Limits
pub mod Trees
pub mod Shapes
pub mod Sizes
pub mod Counts
pub mod Windows
pub mod Ends
pub mod MaskEnds
pub mod Contacts
pub mod OneColour
pub mod Own
pub mod Seen

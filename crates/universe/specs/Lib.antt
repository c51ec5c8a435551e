-- The universe (rules, section 1) and room (4.7); how refusals and lent memory are said (section 8).
pub mod Refusals
pub mod Told
pub mod Lent
pub mod Rounds
pub mod Universe
pub mod Questions
pub mod Accepting
pub mod Block
pub mod Voxel
pub mod Room

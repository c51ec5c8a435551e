-- Laws of how the conversion judges and writes.
pub mod Codes
pub mod Slots
pub mod BallCodes
pub mod BallMarks
pub mod Blocks
pub mod Judging
pub mod Turns
pub mod Naming
pub mod Carrying
pub mod Shapes
pub mod Pieces
pub mod Laying
pub mod Beginning
pub mod Answers
pub mod OneTree
pub mod Clearances

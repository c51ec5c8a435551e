-- Laws of the definitions.
pub mod Halfspace
pub mod Nested
pub mod Extremes
pub mod Distances
pub mod Balls
pub mod Limits
pub mod Rows
pub mod BallChecks
pub mod Tree
pub mod Words
pub mod Checking
pub mod Evaluation
pub mod Beneath
pub mod Marks
pub mod Raw

-- From simple to used: one number; the tests taken apart; what the code holds; a number guessed and verified; the answers; fractions; what is
-- taken; what the rows say; their limits; and the theorems.
pub mod Sixteenths
pub mod Parts
pub mod Held
pub mod Guess
pub mod Rows
pub mod Points
pub mod Taken
pub mod Moved
pub mod Centres
pub mod Limits
pub mod Theorems

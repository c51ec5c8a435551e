-- From simple to used: laws over more rows; keys, steps and stretches; what an accepted call has; the rows, the words and the tree of a stretch; verdicts
-- joined; every frame by its own stretch; the answers; even motion; and the theorems, of motion and of voxels.
pub mod Appended
pub mod Tests
pub mod Keys
pub mod Steps
pub mod Stretches
pub mod Accepted
pub mod Scenes
pub mod Trees
pub mod Joins
pub mod Own
pub mod Judging
pub mod Answers
pub mod Motion
pub mod Theorems
pub mod Voxels

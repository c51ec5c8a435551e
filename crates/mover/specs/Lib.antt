-- Keyed movers (rules, section 15): keys and stretches, where the Box stands over a stretch, the verdict of every frame
-- by its own stretch, and what the call answers.
pub mod Keys
pub mod Stretches
pub mod Motion
pub mod Frames
pub mod Answers
pub mod Ready

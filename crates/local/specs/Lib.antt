-- Raw conversions and verdicts in lent room, pruned in local room: that room. What they answer is crate `convert`'s.
pub mod Rooms

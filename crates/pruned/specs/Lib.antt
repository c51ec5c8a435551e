-- The pruned conversion (rules, section 16): what is left of trees over a block, the nodes looked at, and answers.
pub mod Balls
pub mod Left
pub mod Looked
pub mod Nodes
pub mod Laying
pub mod Pair
pub mod Loading
pub mod Single
pub mod Alone
pub mod Round
pub mod Told
pub mod Answers
pub mod Whole

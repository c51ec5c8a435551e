-- Octrees (rules, section 13): an octree, its symbols, reading, colours and reduction; its octree and its shape of each
-- other; what the two calls answer and write; and the runs of sons that the code makes its way by.
pub mod Octree
pub mod Parting
pub mod Answers
pub mod Runs

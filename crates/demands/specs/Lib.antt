-- What is demanded of the definitions (rules 10.2 and 10.3), for the theorems of proofs/.
pub mod Room
pub mod Colours
pub mod Reversal
pub mod Voxels
pub mod Verdicts
pub mod Shortest

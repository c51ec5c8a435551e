-- What it is for a contract to fix its answer (rule 10.4).
pub mod Answers

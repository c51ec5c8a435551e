-- The face for C and Rust (rules, section 11): answers as numbers and arrays.
pub mod Arrays

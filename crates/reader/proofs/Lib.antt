-- Laws of the definitions, and what reading an expression to its end gives.
pub mod Symbols
pub mod Readings

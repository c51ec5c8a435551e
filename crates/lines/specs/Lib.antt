-- What is printed for a scene (rules, section 9): numbers in decimal, each line, and which lines a scene gets.
pub mod Decimal
pub mod Lines
pub mod Told
pub mod Program
pub mod Appended

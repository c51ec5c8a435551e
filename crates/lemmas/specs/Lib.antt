-- Sums and products over places, and over the cells of a grid; lists of numbers.
pub mod Sums
pub mod Grid
pub mod Lists

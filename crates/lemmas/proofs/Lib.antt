-- Laws of general things.
pub mod Sums
pub mod Chains
pub mod Whole
pub mod Machine
pub mod Totals
pub mod Grid
pub mod Stores
pub mod Lists

-- Reports (rules 5.5 to 5.8): lists of expressions, black voxels frame by frame, and what a report answers and writes.
pub mod Told
pub mod Lists
pub mod Reports
pub mod Filling

-- Stand-ins (rules, section 6): which numbers are taken, the rows, and what they say of a point in space and time.
pub mod Sixteenths
pub mod Rows
pub mod Held
pub mod Points

-- Worked cases of the definitions that the contracts cite.
pub mod Cases
pub mod CutFromItself
pub mod Numbers
pub mod FrameBits
pub mod Reports
pub mod Balls
pub mod Swept
pub mod Octrees
pub mod Contacts
pub mod Movers
pub mod Prunings

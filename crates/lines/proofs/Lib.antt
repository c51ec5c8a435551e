-- What the crate's proofs share.
pub mod Decimal
pub mod Appended
pub mod Lines
pub mod Scenes
pub mod Examples

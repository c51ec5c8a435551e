-- Laws of conversions in local room.
pub mod Rooms
pub mod Conversions
pub mod Clearances

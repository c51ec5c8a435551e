-- Sure and possible contact.
pub mod Own
pub mod Painting
pub mod Over
pub mod Contacts
pub mod Points
pub mod Middle

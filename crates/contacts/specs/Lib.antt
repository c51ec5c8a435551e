-- Sure and possible contact (rules, section 14).
pub mod Contacts
pub mod Painting
pub mod Points
pub mod Middle

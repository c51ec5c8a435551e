-- Files (rules, section 7): numbers in bytes, the scene, the shape.
pub mod Numbers
pub mod Told
pub mod Scenes
pub mod Shapes

-- Laws of the definitions; those of checks one after the other first.
pub mod Refusals
pub mod Numbers
pub mod SceneHeaders
pub mod Scenes
pub mod Accepted
pub mod Measuring
pub mod Shapes
pub mod RoundTrip
pub mod SceneExamples
pub mod ShapeExamples

-- What is promised of the entry points, proved.
pub mod Keeping
pub mod Promises
pub mod Shortest
pub mod Numbers
pub mod Report
pub mod Centres
pub mod Faces
pub mod CutFromItself
pub mod Swept
pub mod Octrees
pub mod Located
pub mod Never
pub mod Contacts
pub mod AtOnce
pub mod Pruned
pub mod Movers

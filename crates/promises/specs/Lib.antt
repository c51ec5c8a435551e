-- What is promised of the entry points (rules 10.2 and 10.3), and what room counts (4.7).
pub mod Promises
pub mod Shortest
pub mod Numbers
pub mod Report
pub mod Centres
pub mod Faces
pub mod CutFromItself
pub mod Swept
pub mod Octrees
pub mod Contacts
pub mod AtOnce
pub mod Pruned
pub mod Movers

-- What merging holds back (rule 4.13), over all legal continuations of what was read.
pub mod Held

pub mod FirstSight
pub mod NameKeys
pub mod AtomKeys

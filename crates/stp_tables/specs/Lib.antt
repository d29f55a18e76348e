pub mod FirstSight
pub mod Names
pub mod Atoms

pub mod NoPlan
pub mod Texts
pub mod Bounds
pub mod OneText

mod Reading
mod TypedEffects
mod Equations
pub mod TypedDurations

pub mod Pieces
pub mod Domain
pub mod Problem
pub mod Plan

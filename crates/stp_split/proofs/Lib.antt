pub mod Written
pub mod Splitting
pub mod Turned
pub mod Answered
pub mod Weights
pub mod Loops
pub mod KnownRows

pub mod Choices
pub mod Ends
pub mod Late
pub mod Members
pub mod Pairs
pub mod Verdicts

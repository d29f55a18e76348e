pub mod Lexing
pub mod Taking
pub mod Continuing
pub mod Equations
pub mod Spelling
pub mod Least
pub mod Items
mod Runs

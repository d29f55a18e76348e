pub mod Forest
pub mod Rows
pub mod Making
pub mod Loops
pub mod Laws

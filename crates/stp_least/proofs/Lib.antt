pub mod Middles
pub mod Narrowing
pub mod Placed
pub mod Searches
